use Rattle.link_rules.proofs.Same.{run_before}
use Rattle.link_rules.proofs.laws.a_run_begins_with_a_run.Goals as goal

pub returns : goal.returns
returns c = run_before
