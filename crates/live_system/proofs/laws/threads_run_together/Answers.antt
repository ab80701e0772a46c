use Rattle.network_calls.proofs.Threads.{together}
use Rattle.live_system.specs.Run.{Does}
use Rattle.live_system.specs.System.{IsPassOf}
use Rattle.live_system.proofs.laws.threads_run_together.Goals as goal

pub returns : goal.returns
returns g = λ system first last steps a b. together (IsPassOf system) (Does system) first last steps a b
