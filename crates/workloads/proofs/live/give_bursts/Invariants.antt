use Rattle.std.proofs.Common.{◌≡◌}
use Rattle.live_system.specs.System.{IsPassOf}
use Rattle.workloads.proofs.live.give_bursts.Given as goal

abbrev pub invariant-bursts : goal.invariant-bursts
invariant-bursts g l = IsPassOf l.system l.pass × (l.pass.net ≡ l.initial.pass.net)
