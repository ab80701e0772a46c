use Rattle.end_system.specs.System.{IsPassOf}
use Rattle.test_end_system_threads.proofs.held.check_beside.Given as goal

abbrev pub invariant-loop-row : goal.invariant-loop-row
invariant-loop-row g l = IsPassOf l.system l.pass
