use Rattle.std.proofs.Common.{◌≡◌, ◌∙◌, ◌-◌, ◌<◌, suc, sym, length, false, arith}
use Rattle.es_base.specs.declared.event.Event.{Event}
use Rattle.link_core.specs.Told.{tells_delivered}
use Rattle.link_receiver.proofs.Walks.{there_is, none_from}
use Rattle.link_receiver.proofs.walk.end_of.Goals as goal

pub events-preserved : goal.events-preserved
events-preserved c =
    let history = c.args.history.now.items in
    let end = c.events.end in
    let within : end - 1 < length history = omega (arith, c.events.invariant.0, c.events-test.true) in
    let there = there_is history (end - 1) within in
    let not : tells_delivered there.0.verdict c.args.port ≡ false = sym (c.delivers_at.ensures there.0 there.1) ∙ c.if-not-delivers_at.true in
    let next : suc (end - 1) ≡ end = omega (arith, c.events-test.true) in
    (omega (arith, c.events.invariant.0), none_from (λ (e : Event). tells_delivered e.verdict c.args.port ≡ false) history (end - 1) there.0 there.1 not (rw next c.events.invariant.1))
