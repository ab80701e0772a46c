use Rattle.std.proofs.Common.{◌≡◌}
use Rattle.link_lock.proofs.lock.Lock.take.Given as goal

abbrev pub invariant-loop : goal.invariant-loop
invariant-loop g l = (l.right.table_id ≡ l.initial.right.table_id) × (l.right.id ≡ l.initial.right.id) × (l.right.me ≡ l.initial.right.me)
