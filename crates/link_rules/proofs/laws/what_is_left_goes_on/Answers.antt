use Rattle.link_rules.proofs.Same.{left_joins}
use Rattle.link_rules.proofs.laws.what_is_left_goes_on.Goals as goal

pub returns : goal.returns
returns c = left_joins
