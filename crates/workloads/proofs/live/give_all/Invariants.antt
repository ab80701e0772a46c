use Rattle.std.proofs.Common.{◌≡◌}
use Rattle.live_system.specs.System.{IsPassOf}
use Rattle.workloads.proofs.live.give_all.Given as goal

abbrev pub invariant-batches : goal.invariant-batches
invariant-batches g l = IsPassOf l.system l.pass × (l.pass.net ≡ l.fn.pass.net)
