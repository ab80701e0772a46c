use Rattle.sampling_port.proofs.Moments.{is_what_was_published}
use Rattle.sampling_port.proofs.laws.what_was_published_is_what_is_read.Goals as goal

pub returns : goal.returns
returns c = is_what_was_published
