use Rattle.slot_core.proofs.Interleavings.{held_stays_whole, holds_outlast}
use Rattle.slot_core.proofs.laws.a_held_message_stays_whole.Goals as goal

pub returns-clause-view : goal.returns-clause-view
returns-clause-view c = holds_outlast

pub returns-clause-message : goal.returns-clause-message
returns-clause-message c = held_stays_whole
