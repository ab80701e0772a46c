use Rattle.std.proofs.Common.{◌≡◌}
use Rattle.end_system.specs.System.{IsPassOf}
use Rattle.test_embedding.proofs.networks.run_b.Given as goal

abbrev pub invariant-loop-frame : goal.invariant-loop-frame
invariant-loop-frame g l =
    (goal.iterator-loop-frame g).can_next l.frame-iterator ×
    (goal.iterator-loop-frame g).is_finite l.frame-iterator ×
    IsPassOf l.system l.pass × (l.pass.net ≡ l.fn.pass.net)
