use Rattle.std.proofs.Common.{◌≡◌}
use Rattle.live_system.specs.System.{IsPassOf}
use Rattle.test_both_systems.proofs.threads.give_each.Given as goal

abbrev pub invariant-frames : goal.invariant-frames
invariant-frames g l = IsPassOf l.system l.pass × (l.pass.net ≡ l.initial.pass.net)
