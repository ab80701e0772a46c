use Rattle.std.proofs.Common.{◌≡◌}
use Rattle.end_system.specs.System.{IsPassOf}
use Rattle.workloads.proofs.networks.give_batch.Given as goal

abbrev pub invariant-loop : goal.invariant-loop
invariant-loop g l = IsPassOf l.system l.pass × (l.pass.net ≡ l.initial.pass.net)
