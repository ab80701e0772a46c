use Rattle.live_system.proofs.Running.{ended}
use Rattle.live_system.proofs.laws.from_the_opening_to_the_end.Goals as goal

pub returns : goal.returns
returns g = λ readers system first last ends steps links a b opened ran has_settled. ended readers system first last ends steps links a b opened ran has_settled
