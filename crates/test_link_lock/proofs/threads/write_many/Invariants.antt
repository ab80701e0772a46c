use Rattle.std.proofs.Common.{◌≡◌}
use Rattle.test_link_lock.proofs.threads.write_many.Given as goal

abbrev pub invariant-loop-number : goal.invariant-loop-number
invariant-loop-number g l = (l.pass.lock ≡ l.initial.pass.lock) × (l.pass.user ≡ l.initial.pass.user)
