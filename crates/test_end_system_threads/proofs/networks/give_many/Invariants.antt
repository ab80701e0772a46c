use Rattle.std.proofs.Common.{◌≡◌}
use Rattle.end_system.specs.System.{IsPassOf}
use Rattle.test_end_system_threads.proofs.networks.give_many.Given as goal

abbrev pub invariant-loop-number : goal.invariant-loop-number
invariant-loop-number g l = IsPassOf l.system l.pass × (l.pass.net ≡ l.initial.pass.net)
