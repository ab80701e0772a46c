use Rattle.live_system.proofs.Running.{ended}
use Rattle.delivery_laws.proofs.LiveGiven.{delivers_each}
use Rattle.delivery_laws.proofs.live.each_message_is_given_once.Goals as goal

pub returns : goal.returns
returns g = λ readers system first last ends steps links a b opened ran has_settled.
    delivers_each readers system steps ends links a b (ended readers system first last ends steps links a b opened ran has_settled)
