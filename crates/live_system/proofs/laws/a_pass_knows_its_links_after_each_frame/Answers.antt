use Rattle.live_system.proofs.Knowing.{knows_still}
use Rattle.live_system.proofs.laws.a_pass_knows_its_links_after_each_frame.Goals as goal

pub returns : goal.returns
returns g = λ config old new now octets reply links does know. knows_still config old new now octets reply links does know
