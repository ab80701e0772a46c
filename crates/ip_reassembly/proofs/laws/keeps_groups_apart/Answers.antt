use Rattle.ip_reassembly.proofs.Apartness.{keeps_apart}
use Rattle.ip_reassembly.proofs.laws.keeps_groups_apart.Goals as goal

pub returns : goal.returns
returns c = keeps_apart
