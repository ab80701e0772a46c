use Rattle.slot_core.proofs.Interleavings.{held_is_not_written}
use Rattle.slot_core.proofs.laws.a_held_slot_is_not_written.Goals as goal

pub returns : goal.returns
returns c = held_is_not_written
