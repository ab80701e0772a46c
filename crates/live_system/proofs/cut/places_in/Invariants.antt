use Rattle.std.proofs.Common.{◌≡◌, take}
use Rattle.live_system.specs.Groups.{places_in}
use Rattle.live_system.proofs.cut.places_in.Given as goal

-- the places of the links of the groups so far
abbrev pub invariant-groups : goal.invariant-groups
invariant-groups l = l.places.items ≡ places_in 0 (take l.group l.sizes)
