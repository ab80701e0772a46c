use Rattle.std.proofs.Common.{◌≡◌}
use Rattle.live_system.specs.System.{IsPassOf}
use Rattle.workloads.proofs.live.give_each.Given as goal

abbrev pub invariant-frames : goal.invariant-frames
invariant-frames g l = IsPassOf l.system l.pass × (l.pass.net ≡ l.initial.pass.net)
