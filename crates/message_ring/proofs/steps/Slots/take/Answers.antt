use Rattle.std.proofs.Common.{rules, ap, sym, ◌≡◌, ◌∙◌}
use Rattle.message_ring.specs.Queue.{queued}
use Rattle.message_ring.specs.Rule.{in_slot}
use Rattle.message_ring.specs.Plays.{QueueSeat}
use Rattle.message_ring.proofs.Seats.{first_is, take_done, take_may_go, there}
use Rattle.message_ring.proofs.Turns.{take_enters_at}
use Rattle.message_ring.proofs.steps.Slots.take.Goals as goal

pub load-requires : goal.load-requires
load-requires c = let may = c.requires.seat in (search rules, search rules, take_enters_at _ _ _ _ may.seat may.outside may.more may.sure)

pub slot_mut-requires : goal.slot_mut-requires
slot_mut-requires c = let t = c.load.ensures.2 in (search rules, (t.0, there _ _ _ _ _ (ap (λ (m : QueueSeat). m.1) t.1) c.requires.seat.next_is))

pub store-requires : goal.store-requires
store-requires c =
    let t = c.load.ensures.2 in
    let same : c.slot_mut.result.now ≡ t.0 = first_is _ _ _ _ _ _ c.slot_mut.ensures.value (ap (λ (m : QueueSeat). m.1) t.1) in
    (search rules, search rules, take_may_go _ _ _ _ _ _ _ t.0 _ c.requires.seat t.1 t.2 t.3 (c.read-taken.ensures.slot ∙ same))

pub returns-clause-taken : goal.returns-clause-taken
returns-clause-taken c =
    let t = c.load.ensures.2 in
    let read = c.read-taken.ensures in
    take_done _ _ _ _ _ _ t.0 c.read-taken.new.self _ c.requires.seat t.1 c.store.ensures.2 (ap in_slot read.slot ∙ (λ i. queued (sym read.time i) (sym read.octets i) (sym read.lost i)))
