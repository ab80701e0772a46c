use Rattle.std.proofs.Common.{◌+◌, ◌≤◌, length, map}
use Rattle.std.specs.Vec.{vec_capacity}
use Rattle.network_calls.proofs.Settling.{Settling}
use Rattle.network_calls.proofs.settled.settle.Given as goal

-- the links so far are settled, and there is room for the rest
abbrev pub invariant-locks : goal.invariant-locks
invariant-locks g l = record {
  so_far : Settling g.P.PassOnLink.keeping l.fn._settings l.fn.a.links l.fn.b.links (map g.P.PassOnLink.lock_id l.locks.items) l.ones.items l.others.items l.links.items l.counts_a.items l.counts_b.items;
  room : length l.links.items + length l.ones.items ≤ vec_capacity l.links;
  room_a : length l.counts_a.items + length l.ones.items ≤ vec_capacity l.counts_a;
  room_b : length l.counts_b.items + length l.others.items ≤ vec_capacity l.counts_b;
}

abbrev pub decreases-locks : goal.decreases-locks
decreases-locks g l = length l.locks.items
