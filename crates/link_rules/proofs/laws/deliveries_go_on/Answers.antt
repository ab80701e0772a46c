use Rattle.link_rules.proofs.Same.{go_on}
use Rattle.link_rules.proofs.laws.deliveries_go_on.Goals as goal

pub returns : goal.returns
returns c = go_on
