use Rattle.std.proofs.Common.{◌≤◌, ◌*◌}
use Rattle.es_base.specs.Packet.{ones_sum}
use Rattle.frame_reader.proofs.Sums.{IsFolded}
use Rattle.frame_reader.proofs.packet.is_sum_right.Given as goal

-- the sum of the words so far
abbrev pub invariant-loop-i : goal.invariant-loop-i
invariant-loop-i l = record {
  folded : IsFolded l.sum (ones_sum (2 * l.i) l.header);
  fits : l.sum ≤ l.i * 4294967295;
  some : 1 ≤ l.i → 1 ≤ l.sum;
}
