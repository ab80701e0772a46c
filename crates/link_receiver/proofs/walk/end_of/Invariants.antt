use Rattle.std.proofs.Common.{◌≡◌, ◌≤◌, false, drop, length}
use Rattle.std.specs.List.{All}
use Rattle.link_core.specs.Told.{tells_delivered}
use Rattle.link_receiver.proofs.walk.end_of.Given as goal

-- no event from here on delivered a message to the port
abbrev pub invariant-events : goal.invariant-events
invariant-events l = (l.end ≤ length l.history.items) × All (λ e. tells_delivered e.verdict l.port ≡ false) (drop l.end l.history.items)

abbrev pub decreases-events : goal.decreases-events
decreases-events l = l.end
