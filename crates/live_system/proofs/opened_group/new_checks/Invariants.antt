use Rattle.std.proofs.Common.{take}
use Rattle.live_system.specs.Checked.{AreNewChecks}
use Rattle.live_system.proofs.opened_group.new_checks.Given as goal

-- those of the links so far
abbrev pub invariant-links : goal.invariant-links
invariant-links l = AreNewChecks (take l.settings-index l.links) l.checks.items
