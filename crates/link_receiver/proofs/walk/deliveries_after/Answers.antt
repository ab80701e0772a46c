use Rattle.std.proofs.Common.{◌∙◌, ◌++◌, List, append-nil, sym, reverse, take}
use Rattle.std.proofs.lemmas.Result.{IfOk-weaker}
use Rattle.es_base.specs.declared.event.Event.{Event}
use Rattle.link_rules.specs.Deliveries.{deliveries}
use Rattle.link_rules.specs.Reassembly.{groups_in}
use Rattle.link_rules.specs.Run.{IsRun}
use Rattle.ip_reassembly.specs.Kept.{StandsFor}
use Rattle.link_receiver.specs.Walk.{AreSince}
use Rattle.link_receiver.proofs.Verdicts.{same_up_to}
use Rattle.link_receiver.proofs.walk.deliveries_after.Goals as goal

pub returns-then-end-eq0 : goal.returns-then-end-eq0
returns-then-end-eq0 c = λ earlier stood run.
    let same = same_up_to c.args.settings.now c.args.history.now.items earlier c.end_of-end.result c.args.port run c.end_of-end.ensures.1 in
    rw c.new.ensures.items (rw c.if-end-eq0.true at same ∙ sym (append-nil (deliveries c.args.settings.now earlier c.args.port)))

pub returns : goal.returns
returns c =
    let history = c.args.history.now.items in
    let settings = c.args.settings.now in
    IfOk-weaker c.deliveries_before.result
    (λ messages. (earlier : List Event) → StandsFor c.in_ok-reassembly.reassembly settings.reassembly (groups_in settings earlier) → IsRun settings (reverse history ++ earlier)
    → AreSince settings earlier (reverse (take c.end_of-end.result history)) c.args.port messages.items)
    (λ messages. (earlier : List Event) → StandsFor c.args.before.now settings.reassembly (groups_in settings earlier) → IsRun settings (reverse history ++ earlier)
    → AreSince settings earlier (reverse history) c.args.port messages.items)
    (λ messages has earlier stood run. same_up_to settings history earlier c.end_of-end.result c.args.port run c.end_of-end.ensures.1 ∙ has earlier (rw c.in_ok-reassembly.ensures stood) run)
    c.deliveries_before.ensures
