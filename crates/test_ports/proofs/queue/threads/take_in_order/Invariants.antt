use Rattle.std.proofs.Common.{◌≡◌}
use Rattle.test_ports.proofs.queue.threads.take_in_order.Given as goal

-- the taker is still that of its queue
abbrev pub invariant-loop : goal.invariant-loop
invariant-loop g l = l.taker.queue ≡ l.fn.taker.queue
