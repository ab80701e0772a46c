use Rattle.std.proofs.Common.{◌≡◌, ◌+◌, ◌++◌, ◌∷◌, [], ◌∙◌, sym, ap, arith, get_or, take}
use Rattle.std.proofs.lemmas.List.{take_more}
use Rattle.slot_core.specs.declared.event.CoreEvent.TheVariants.{Scan}
use Rattle.slot_core.specs.Limits.{port_readers, port_slots}
use Rattle.slot_core.specs.State.{State, opening}
use Rattle.slot_core.specs.Steps.{after_event, after_all}
use Rattle.slot_core.specs.Allowed.{Allowed}
use Rattle.slot_core.proofs.Interleavings.{one_more}
use Rattle.slot_core.proofs.schedule.run.Goals as goal

pub loop-place-preserved : goal.loop-place-preserved
loop-place-preserved c =
    let start = opening port_readers port_slots in
    let place = c.loop-place.place in
    let before = take place c.args.events.now in
    let event = get_or c.args.events.now place (Scan 0) in
    let split : take (place + 1) c.args.events.now ≡ before ++ event ∷ [] = take_more c.args.events.now place (Scan 0) (omega arith) in
    let invariant = c.loop-place.invariant in
    let here : Allowed port_readers port_slots (after_all port_readers start before) event = rw invariant.1 at c.in_default.ensures.allowed in
    let more = one_more port_readers port_slots start before event invariant.0 here in
    rw split (more.0, c.in_default.ensures.state ∙ ap (λ (s : State). after_event port_readers s event) invariant.1 ∙ sym more.1)
