use Rattle.message_ring.proofs.Moments.{all_taken}
use Rattle.message_ring.proofs.laws.a_look_tells_all_that_is_taken.Goals as goal

pub returns : goal.returns
returns c s taken before after kept = all_taken s kept taken before after
