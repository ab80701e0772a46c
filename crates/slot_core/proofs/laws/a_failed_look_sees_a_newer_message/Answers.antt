use Rattle.slot_core.proofs.Interleavings.{failed_look_is_later}
use Rattle.slot_core.proofs.laws.a_failed_look_sees_a_newer_message.Goals as goal

pub returns : goal.returns
returns c = failed_look_is_later
