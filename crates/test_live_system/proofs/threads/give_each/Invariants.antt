use Rattle.std.proofs.Common.{◌≡◌}
use Rattle.live_system.specs.System.{IsPassOf}
use Rattle.test_live_system.proofs.threads.give_each.Given as goal

abbrev pub invariant-loop-number : goal.invariant-loop-number
invariant-loop-number g l = IsPassOf l.system l.pass × (l.pass.net ≡ l.initial.pass.net)
