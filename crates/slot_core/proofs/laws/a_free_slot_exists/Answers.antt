use Rattle.slot_core.proofs.FreeSlot.{free_slot_exists}
use Rattle.slot_core.proofs.laws.a_free_slot_exists.Goals as goal

pub returns : goal.returns
returns c = free_slot_exists
