use Rattle.sampling_port.proofs.Moments.{not_written}
use Rattle.sampling_port.proofs.laws.a_held_slot_is_not_written.Goals as goal

pub returns : goal.returns
returns c readers slots s writer reader place word slot index stored w v kept there at holds may = not_written readers slots s kept reader place v at writer word slot index stored w there holds may
