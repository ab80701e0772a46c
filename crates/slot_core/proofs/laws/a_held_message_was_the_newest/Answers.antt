use Rattle.slot_core.proofs.Interleavings.{held_is_newest}
use Rattle.slot_core.proofs.laws.a_held_message_was_the_newest.Goals as goal

pub returns : goal.returns
returns c = held_is_newest
