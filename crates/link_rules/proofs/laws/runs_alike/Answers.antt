use Rattle.link_rules.proofs.Same.{runs_alike}
use Rattle.link_rules.proofs.laws.runs_alike.Goals as goal

pub returns : goal.returns
returns c = runs_alike
