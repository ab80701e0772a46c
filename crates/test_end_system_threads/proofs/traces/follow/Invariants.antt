use Rattle.std.proofs.Common.{◌≡◌}
use Rattle.end_system.specs.System.{IsPassOf}
use Rattle.test_end_system_threads.proofs.traces.follow.Given as goal

abbrev pub invariant-loop-place : goal.invariant-loop-place
invariant-loop-place g l = IsPassOf l.system l.pass × (l.pass.net ≡ l.initial.pass.net)
