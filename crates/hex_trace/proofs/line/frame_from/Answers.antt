use Rattle.std.proofs.Common.{arith}
use Rattle.std.proofs.lemmas.Grind.{common_steps}
use Rattle.hex_trace.specs.Line.{frame_from}
use Rattle.hex_trace.proofs.line.frame_from.Goals as goal

pub returns-then-time-before : goal.returns-then-time-before
unfolding frame_from
returns-then-time-before c = grind (arith, common_steps)

pub returns-then-is_empty : goal.returns-then-is_empty
unfolding frame_from
returns-then-is_empty c = grind (arith, common_steps)
