use Rattle.std.proofs.Common.{◌≡◌, ◌+◌, ◌≤◌, ◌++◌, List, length, reverse}
use Rattle.std.specs.Vec.{vec_capacity}
use Rattle.live_system.proofs.link_pass.add_reversed.Given as goal

-- those that were taken so far were added, the last first
abbrev pub invariant-items : goal.invariant-items
invariant-items g l = record {
  so_far : (done : List g.row.T.Denot) × (l.from.items ++ done ≡ l.fn.from.items) × (l.to.items ≡ l.fn.to.items ++ reverse done);
  room : length l.to.items + length l.from.items ≤ vec_capacity l.to;
  same : vec_capacity l.to ≡ vec_capacity l.fn.to;
}

abbrev pub decreases-items : goal.decreases-items
decreases-items g l = length l.from.items
