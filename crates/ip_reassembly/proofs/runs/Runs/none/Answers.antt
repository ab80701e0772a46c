use Rattle.ip_reassembly.proofs.Came.{no_runs}
use Rattle.ip_reassembly.proofs.runs.Runs.none.Goals as goal

pub returns : goal.returns
returns c = λ places. no_runs places 8200
