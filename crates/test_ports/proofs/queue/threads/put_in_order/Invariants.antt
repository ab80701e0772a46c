use Rattle.std.proofs.Common.{◌≡◌}
use Rattle.test_ports.proofs.queue.threads.put_in_order.Given as goal

-- the putter is still that of its queue
abbrev pub invariant-loop : goal.invariant-loop
invariant-loop g l = l.putter.queue ≡ l.fn.putter.queue
