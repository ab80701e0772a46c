use Rattle.std.proofs.Common.{◌∙◌, sym}
use Rattle.std.proofs.lemmas.Bool.{false≢true}
use Rattle.hex_trace.specs.Frames.{lent_as}
use Rattle.trace_player.proofs.Merging.{a_alone, a_is_next, b_alone, b_is_next, none_left}
use Rattle.trace_player.proofs.merge.Merge.first.Goals as goal

pub returns-in-Some-Some-clause-next : goal.returns-in-Some-Some-clause-next
returns-in-Some-Some-clause-next c =
    let firsts = c.in-Some-Some in
    b_is_next c.args.all c.args.self.now.a c.args.self.now.b (lent_as firsts.a) (lent_as firsts.b) firsts.ensures firsts.ensures' c.if-b-a.true

pub returns-in-Some-Some-2-clause-next : goal.returns-in-Some-Some-2-clause-next
returns-in-Some-Some-2-clause-next c =
    let firsts = c.in-Some-Some in
    a_is_next c.args.all c.args.self.now.a c.args.self.now.b (lent_as firsts.a) (lent_as firsts.b) firsts.ensures firsts.ensures' c.if-b-a.false

pub returns-in-None-Some-clause-next : goal.returns-in-None-Some-clause-next
returns-in-None-Some-clause-next c =
    let firsts = c.in-None-Some in
    b_alone c.args.all c.args.self.now.a c.args.self.now.b (lent_as firsts.b) firsts.ensures firsts.ensures'

pub returns-in-Some-None-clause-next : goal.returns-in-Some-None-clause-next
returns-in-Some-None-clause-next c =
    let firsts = c.in-Some-None in
    a_alone c.args.all c.args.self.now.a c.args.self.now.b (lent_as firsts.a) firsts.ensures firsts.ensures' c.if-all.true

pub returns-in-Some-None-2-clause-last : goal.returns-in-Some-None-2-clause-last
returns-in-Some-None-2-clause-last c =
    (none_left c.args.self.now.b c.in-Some-None.ensures', λ is. absurd (false≢true (sym c.if-all.false ∙ is)))

pub returns-in-None-None-clause-last : goal.returns-in-None-None-clause-last
returns-in-None-None-clause-last c =
    let firsts = c.in-None-None in
    (none_left c.args.self.now.b firsts.ensures', λ is. none_left c.args.self.now.a firsts.ensures)
