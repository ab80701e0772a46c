use Rattle.std.proofs.Common.{rules}
use Rattle.hex_trace.proofs.lines.Lines.new.Goals as goal

pub returns-clause-said : goal.returns-clause-said
returns-clause-said c = search rules
