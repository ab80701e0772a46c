use Rattle.slot_core.proofs.Schedules.{fails_early}
use Rattle.slot_core.proofs.without.the_last_word.Goals as goal

pub returns : goal.returns
returns c = fails_early
