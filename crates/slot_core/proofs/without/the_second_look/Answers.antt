use Rattle.slot_core.proofs.Schedules.{fails_in_haste}
use Rattle.slot_core.proofs.without.the_second_look.Goals as goal

pub returns : goal.returns
returns c = fails_in_haste
