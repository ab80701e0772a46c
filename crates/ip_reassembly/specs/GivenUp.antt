-- How many groups of pieces end without their datagram (own).
use Rattle.std.specs.Prelude.{◌≡◌, ℕ, ◌+◌, ◌-◌, ◌^◌, ◌==◌, min, List, length, Option, None, Some, if◌then◌else◌}
use Rattle.es_base.specs.declared.fragment.DatagramKey.{DatagramKey}
use Rattle.es_base.specs.Limits.{most_partials}
use Rattle.es_base.specs.Packet.{PacketParts}
use Rattle.link_rules.specs.Fragments.{is_whole, is_bad, key_of}
use Rattle.link_rules.specs.Groups.{Group, Found, joins, begins, place_of, found_for, groups_after}
use Rattle.ip_reassembly.specs.Kept.{Kept, StandsFor}

-- the one at a place, if there is one
abbrev pub one_at : Option ℕ → ℕ
one_at None = 0
one_at (Some place) = 1

-- the one that began first, if the most groups stand and another begins
abbrev pub one_for_room : List Group → ℕ
one_for_room groups = if length groups == most_partials then 1 else 0

-- number of groups that a piece gives up: none if it joins one; if it begins one, the one of its key, which began too
-- long ago, and the oldest, for room
abbrev pub given_up_for : List Group → DatagramKey → Found → ℕ
given_up_for groups key (joins place group) = 0
given_up_for groups key (begins others) = one_at (place_of key groups) + one_for_room others

-- number of groups that a packet gives up that comes now, after these groups: a whole datagram the group of its key, a
-- bad fragment none; a group whose datagram is complete ends, and isn't given up
-- rule: REAS-15
unfoldable pub given_up : ℕ → List Group → PacketParts → ℕ → ℕ
given_up limit groups packet now =
    if is_whole packet then one_at (place_of (key_of packet) groups)
    else if is_bad packet then 0
    else given_up_for groups (key_of packet) (found_for limit groups (key_of packet) now)

-- what a count of 64 bits shows of this number: it stops at the greatest
-- rule: COUNT-3, EMB-5
abbrev pub shown : ℕ → ℕ
shown n = min n (2 ^ 64 - 1)

-- what is kept after a packet, where it was of these groups; and the count, where it showed this number
pub record GoesOn (old : Kept) (limit : ℕ) (groups : List Group) (packet : PacketParts) (now : ℕ) (new : Kept) : Type 0 where
  pub pieces : StandsFor new limit (groups_after limit groups packet now)
  pub count : (n : ℕ) → old.given_up ≡ shown n → new.given_up ≡ shown (n + given_up limit groups packet now)
