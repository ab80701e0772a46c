use Rattle.std.proofs.Common.{◌≡◌, ◌++◌}
use Rattle.live_system.specs.Groups.{places_of}
use Rattle.live_system.proofs.cut.push_places.Given as goal

-- the places so far are added
abbrev pub invariant-links : goal.invariant-links
invariant-links l = l.places.items ≡ l.fn.places.items ++ places_of l.group 0 l.index
