use Rattle.std.proofs.Common.{◌≡◌}
use Rattle.test_link_lock.proofs.threads.take_out_many.Given as goal

abbrev pub invariant-loop : goal.invariant-loop
invariant-loop g l = (l.pass.lock ≡ l.initial.pass.lock) × (l.pass.user ≡ l.initial.pass.user)
