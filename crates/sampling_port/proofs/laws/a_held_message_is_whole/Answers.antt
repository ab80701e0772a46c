use Rattle.sampling_port.proofs.Moments.{whole}
use Rattle.sampling_port.proofs.laws.a_held_message_is_whole.Goals as goal

pub returns : goal.returns
returns c readers slots s reader place word v kept at holds = whole readers slots s kept reader place v at word holds
