use Rattle.end_system.proofs.Running.{ended}
use Rattle.delivery_laws.proofs.HistoriesGiven.{delivers_each}
use Rattle.delivery_laws.proofs.histories.each_message_is_given_once.Goals as goal

pub returns : goal.returns
returns g = λ system first last ends steps links a b opened ran has_settled.
    delivers_each system steps ends links a b (ended system first last ends steps links a b opened ran has_settled)
