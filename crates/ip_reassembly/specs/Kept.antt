-- What is kept of the groups of pieces.
use Rattle.std.specs.Prelude.{◌≡◌, ℕ, Bool, List, ◌∷◌, Option, None, Some, is_some, slice_get}
use Rattle.std.specs.List.{AllZip}
use Rattle.es_base.specs.declared.fragment.DatagramKey.{DatagramKey}
use Rattle.es_base.specs.Packet.{PacketParts}
use Rattle.link_rules.specs.Fragments.{key_of, piece_of, datagram_from}
use Rattle.link_rules.specs.Groups.{Group, Found, joins, begins, begin_or, is_same_key, place_of, without_group, groups_with}
use Rattle.ip_reassembly.specs.declared.partial.Partial.{Partial}
use Rattle.ip_reassembly.specs.Held.{HoldsPieces}

-- the time limit, in microseconds; the number of partial datagrams given up; and those that stand, in the order in
-- which they began
pub record Kept : Type 0 where
  pub limit : ℕ
  pub given_up : ℕ
  pub partials : List Partial

-- a partial datagram is what is kept of this group; a group has a piece, so that the time of the first
-- doesn't depend on what stands in for none
pub record IsPartial (partial : Partial) (group : Group) : Type 0 where
  pub key_is : partial.key ≡ group.key
  pub begin_is : (time : ℕ) → begin_or time group.pieces ≡ partial.begin
  pub holds : HoldsPieces partial.buffer group.pieces

-- these are what is kept of these groups, each of one
abbrev pub StandFor : List Partial → List Group → Type 0
StandFor partials groups = AllZip IsPartial partials groups

-- what is kept is this limit of time, and the partial datagrams of these groups
abbrev pub StandsFor : Kept → ℕ → List Group → Type 0
StandsFor kept limit groups = (kept.limit ≡ limit) × StandFor kept.partials groups

-- rule: REAS-4
abbrev pub has_key_of : DatagramKey → Partial → Bool
has_key_of key partial = is_same_key partial.key key

-- the place of the group that a piece joins; where it joins none, it begins one, without an older group of
-- its key
-- rule: REAS-5, REAS-14
abbrev pub Finds : Option ℕ → List Group → DatagramKey → Found → Type 0
Finds None groups key found = found ≡ begins (without_group groups (place_of key groups))
Finds (Some place) groups key found = (group : Group) × (found ≡ joins place group) × (slice_get groups place ≡ Some group)

-- the groups after a piece that joins the group at a place, and completes its datagram or doesn't
-- rule: REAS-6
abbrev pub joined_group : List Group → ℕ → Group → PacketParts → ℕ → List Group
joined_group groups place group packet time =
    groups_with groups (key_of packet) (piece_of packet time) (joins place group)
    (is_some (datagram_from (piece_of packet time ∷ group.pieces)))
