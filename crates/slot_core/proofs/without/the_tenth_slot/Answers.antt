use Rattle.slot_core.proofs.Schedules.{gets_stuck}
use Rattle.slot_core.proofs.without.the_tenth_slot.Goals as goal

pub returns : goal.returns
returns c = gets_stuck
