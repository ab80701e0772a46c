use Rattle.std.proofs.Common.{◌≡◌, ◌∙◌, ap, Some}
use Rattle.std.specs.List.{slice_get}
use Rattle.std.proofs.lemmas.Option.{slice_get-get_or, slice_get_within}
use Rattle.receiver.specs.Link.{ported}
use Rattle.receiver.proofs.Meets.{known}
use Rattle.es_base.proofs.Elements.{set_same, slice_get-set_same}
use Rattle.receiver.proofs.meetings.PortedLink+PortOutlet.meet_reader.Goals as goal

pub invariant_of-self : goal.invariant_of-self
invariant_of-self c =
    let s = c.self.inside in
    let opened = s.outlets.items in
    let at = c.args.port.0 in
    let was : slice_get opened at ≡ Some c.requires.0 = rw (← c.self.view_is) at c.requires.1 in
    let there : slice_get opened at ≡ Some c.index_mut.result.now = rw c.index_mut.ensures.value (slice_get-get_or opened at _ (slice_get_within opened at c.requires.0 was)) in
    rw (set_same opened at c.index_mut.result.now c.meet_reader.new.self there c.meet_reader.ensures.outlet) c.self.invariant

pub returns-clause-link : goal.returns-clause-link
returns-clause-link c =
    let s = c.self.inside in
    let opened = s.outlets.items in
    let at = c.args.port.0 in
    let was : slice_get opened at ≡ Some c.requires.0 = rw (← c.self.view_is) at c.requires.1 in
    let there : slice_get opened at ≡ Some c.index_mut.result.now = rw c.index_mut.ensures.value (slice_get-get_or opened at _ (slice_get_within opened at c.requires.0 was)) in
    ap (λ outlets. ported s.core outlets s.received) (set_same opened at c.index_mut.result.now c.meet_reader.new.self there c.meet_reader.ensures.outlet) ∙ c.self.view_is

pub returns-clause-met : goal.returns-clause-met
returns-clause-met c =
    let s = c.self.inside in
    let opened = s.outlets.items in
    let at = c.args.port.0 in
    let was : slice_get opened at ≡ Some c.requires.0 = rw (← c.self.view_is) at c.requires.1 in
    let there : slice_get opened at ≡ Some c.index_mut.result.now = rw c.index_mut.ensures.value (slice_get-get_or opened at _ (slice_get_within opened at c.requires.0 was)) in
    (c.meet_reader.new.self, slice_get-set_same opened at c.meet_reader.new.self (slice_get_within opened at c.requires.0 was), c.meet_reader.ensures.met)

pub returns-clause-known : goal.returns-clause-known
returns-clause-known c =
    let s = c.self.inside in
    let opened = s.outlets.items in
    let at = c.args.port.0 in
    let was : slice_get opened at ≡ Some c.requires.0 = rw (← c.self.view_is) at c.requires.1 in
    let there : slice_get opened at ≡ Some c.index_mut.result.now = rw c.index_mut.ensures.value (slice_get-get_or opened at _ (slice_get_within opened at c.requires.0 was)) in
    let here : slice_get opened at ≡ Some c.meet_reader.new.self = rw c.meet_reader.ensures.outlet there in
    rw (← c.self.view_is) (known _ c.meet_reader.new.self c.meet_reader.new.reader _ (rw here at (c.self.invariant.0.shown at)) c.meet_reader.ensures.met)
