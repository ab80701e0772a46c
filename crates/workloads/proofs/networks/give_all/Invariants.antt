use Rattle.std.proofs.Common.{◌≡◌}
use Rattle.end_system.specs.System.{IsPassOf}
use Rattle.workloads.proofs.networks.give_all.Given as goal

abbrev pub invariant-loop-batch : goal.invariant-loop-batch
invariant-loop-batch g l = IsPassOf l.system l.pass × (l.pass.net ≡ l.fn.pass.net)
