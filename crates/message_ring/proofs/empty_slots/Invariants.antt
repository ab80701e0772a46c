use Rattle.message_ring.specs.Ends.{AreRoomy}
use Rattle.message_ring.proofs.empty_slots.Given as goal

abbrev pub invariant-slots : goal.invariant-slots
invariant-slots l = AreRoomy l.counter l.fn.max l.slots.items
