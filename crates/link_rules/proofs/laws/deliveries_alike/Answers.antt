use Rattle.link_rules.proofs.Same.{alike}
use Rattle.link_rules.proofs.laws.deliveries_alike.Goals as goal

pub returns : goal.returns
returns c = alike
