use Rattle.std.proofs.Common.{rules, ap, ◌≡◌}
use Rattle.message_ring.specs.Plays.{QueueSeat}
use Rattle.message_ring.proofs.Seats.{first_is, put_done, put_may_go, roomy_with, there}
use Rattle.message_ring.proofs.Turns.{put_enters_at}
use Rattle.message_ring.proofs.steps.Slots.put.Goals as goal

pub load-requires : goal.load-requires
load-requires c = let may = c.requires.seat in (search rules, search rules, put_enters_at _ _ _ _ may.seat may.outside may.room)

pub slot_mut-requires : goal.slot_mut-requires
slot_mut-requires c = let t = c.load.ensures.2 in (search rules, (t.0, there _ _ _ _ _ (ap (λ (m : QueueSeat). m.1) t.1) c.requires.seat.next_is))

pub store-requires : goal.store-requires
store-requires c =
    let t = c.load.ensures.2 in
    let same : c.slot_mut.result.now ≡ t.0 = first_is _ _ _ _ _ _ c.slot_mut.ensures.value (ap (λ (m : QueueSeat). m.1) t.1) in
    (search rules, search rules, put_may_go _ _ _ _ _ _ _ t.0 _ c.requires.seat t.1 (roomy_with _ t.0 c.slot_mut.result.now c.write.new.self _ t.2 same c.write.ensures.room c.write.ensures.octets c.requires.seat.short))

pub returns-clause-put : goal.returns-clause-put
returns-clause-put c = let t = c.load.ensures.2 in
    put_done _ _ _ _ _ _ t.0 c.write.new.self _ _ _ c.requires.seat t.1 c.store.ensures.2 c.write.ensures.time c.write.ensures.octets c.write.ensures.lost
