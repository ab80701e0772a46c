use Rattle.std.proofs.Common.{rules}
use Rattle.vl_config.proofs.document.port.port_from.Goals as goal

pub returns-then-any_accepts-clause-value : goal.returns-then-any_accepts-clause-value
returns-then-any_accepts-clause-value c = search rules
