use Rattle.std.proofs.Common.{take}
use Rattle.live_system.specs.Groups.{AreNewCounts}
use Rattle.live_system.proofs.opened_group.new_counts.Given as goal

-- those of the links so far
abbrev pub invariant-links : goal.invariant-links
invariant-links l = AreNewCounts (take l.settings-index l.links) l.counts.items
