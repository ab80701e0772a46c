use Rattle.link_rules.proofs.Same.{same_verdict}
use Rattle.link_rules.proofs.laws.verdicts_need_what_is_left.Goals as goal

pub returns : goal.returns
returns c = same_verdict
