use Rattle.message_ring.proofs.Moments.{all_put}
use Rattle.message_ring.proofs.laws.a_look_tells_all_that_is_put.Goals as goal

pub returns : goal.returns
returns c s put before after kept = all_put s kept put before after
