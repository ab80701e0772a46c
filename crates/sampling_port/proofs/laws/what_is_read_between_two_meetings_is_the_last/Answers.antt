use Rattle.sampling_port.proofs.Moments.{last_is_read}
use Rattle.sampling_port.proofs.laws.what_is_read_between_two_meetings_is_the_last.Goals as goal

pub returns : goal.returns
returns c = last_is_read
