use Rattle.std.proofs.Common.{◌≡◌}
use Rattle.live_system.specs.System.{IsPassOf}
use Rattle.test_live_system.proofs.threads.ask_by_tries.Given as goal

abbrev pub invariant-loop : goal.invariant-loop
invariant-loop g l = IsPassOf l.system l.pass × (l.pass.net ≡ l.initial.pass.net)
