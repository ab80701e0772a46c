-- The groups of pieces that stand at a link, and the fate of one more packet (RFC 791 3.2; the limit of
-- time, the number of groups and which one is given up are own).
--
-- Groups are listed in the order in which they began, and the pieces of each the latest first.
use Rattle.std.specs.Prelude.{ℕ, ◌==◌, Bool, true, false, ◌&&◌, List, [], ◌∷◌, ◌++◌, length, drop, slice_get, slice_set, nat_lt, position, remove, Option, None, Some, is_some, if◌then◌else◌}
use Rattle.es_base.specs.declared.fragment.DatagramKey.{DatagramKey}
use Rattle.es_base.specs.Limits.{most_partials}
use Rattle.es_base.specs.Packet.{PacketParts}
use Rattle.link_rules.specs.Fragments.{Piece, is_whole, is_bad, key_of, piece_of, datagram_from}
use Rattle.es_base.specs.Age.{elapsed}

-- the pieces of one partial datagram, with what they share
pub record Group : Type 0 where
  pub key : DatagramKey
  pub pieces : List Piece

-- ---- one group

-- rule: REAS-4
abbrev pub is_same_key : DatagramKey → DatagramKey → Bool
is_same_key a b = a.source == b.source && a.destination == b.destination && a.ident == b.ident

abbrev pub has_key : DatagramKey → Group → Bool
has_key key group = is_same_key group.key key

-- when the first of some pieces came, or this time if there are none
abbrev pub begin_or : ℕ → List Piece → ℕ
begin_or time [] = time
begin_or time (piece ∷ earlier) = begin_or piece.time earlier

-- when a group began: with its first piece
abbrev pub begin_of : Group → ℕ
begin_of group = begin_or 0 group.pieces

-- whether a group began longer ago than the limit of time
-- rule: REAS-5
abbrev pub is_over : ℕ → ℕ → Group → Bool
is_over limit now group = nat_lt limit (elapsed now (begin_of group))

-- ---- what a piece finds

pub data Found : Type 0 where
  -- it joins this group, at this place
  joins : ℕ → Group → Found
  -- it begins a group, after these
  begins : List Group → Found

-- the place of the group with a key
abbrev pub place_of : DatagramKey → List Group → Option ℕ
place_of key groups = position (has_key key) groups

abbrev pub found_if : ℕ → List Group → ℕ → ℕ → Option Group → Found
found_if limit groups now place None = begins groups
found_if limit groups now place (Some group) =
    if is_over limit now group then begins (remove groups place) else joins place group

abbrev pub found_at : ℕ → List Group → ℕ → Option ℕ → Found
found_at limit groups now None = begins groups
found_at limit groups now (Some place) = found_if limit groups now place (slice_get groups place)

-- what a piece finds that has this key and comes now: the group of its key, unless that began too long
-- ago and so is given up
-- rule: REAS-5, REAS-14
abbrev pub found_for : ℕ → List Group → DatagramKey → ℕ → Found
found_for limit groups key now = found_at limit groups now (place_of key groups)

-- ---- one packet more

-- the pieces of its group with this one
abbrev pub pieces_with : Piece → Found → List Piece
pieces_with piece (joins place group) = piece ∷ group.pieces
pieces_with piece (begins groups) = piece ∷ []

-- these groups with room for one that begins: of the most groups, the one that began first is given up
-- rule: REAS-6
abbrev pub with_room : List Group → List Group
with_room groups = if length groups == most_partials then drop 1 groups else groups

-- rule: REAS-6
abbrev pub group_with : Group → Piece → Group
group_with group piece = record { key = group.key; pieces = piece ∷ group.pieces }

-- the groups after a piece, which completes the datagram of its group or doesn't
-- rule: REAS-6
abbrev pub groups_with : List Group → DatagramKey → Piece → Found → Bool → List Group
groups_with groups key piece (joins place group) false = slice_set groups place (group_with group piece)
groups_with groups key piece (joins place group) true = remove groups place
groups_with groups key piece (begins others) false = with_room others ++ record { key = key; pieces = piece ∷ [] } ∷ []
groups_with groups key piece (begins others) true = with_room others

-- the groups without the one at a place
abbrev pub without_group : List Group → Option ℕ → List Group
without_group groups None = groups
without_group groups (Some place) = remove groups place

-- the fate of a packet
pub data Fate : Type 0 where
  -- a fragment that is no piece
  bad : Fate
  -- a piece of a datagram that isn't complete
  held : Fate
  -- it is or completes this datagram, which was joined of pieces or wasn't
  whole : List ℕ → Bool → Fate

abbrev pub fate_if : Option (List ℕ) → Fate
fate_if None = held
fate_if (Some octets) = whole octets true

-- the datagram of its group with this piece
-- rule: REAS-9
abbrev pub datagram_with : ℕ → List Group → PacketParts → ℕ → Option (List ℕ)
datagram_with limit groups packet now =
    datagram_from (pieces_with (piece_of packet now) (found_for limit groups (key_of packet) now))

-- the fate of a packet that comes now, after these groups; times are in microseconds
-- rule: REAS-2
unfoldable pub fate : ℕ → List Group → PacketParts → ℕ → Fate
fate limit groups packet now =
    if is_whole packet then whole packet.octets false
    else if is_bad packet then bad
    else fate_if (datagram_with limit groups packet now)

-- the groups that stand after it: a whole datagram gives up the group of its key, and a bad fragment
-- changes none
-- rule: REAS-13, REAS-11
unfoldable pub groups_after : ℕ → List Group → PacketParts → ℕ → List Group
groups_after limit groups packet now =
    if is_whole packet then without_group groups (place_of (key_of packet) groups)
    else if is_bad packet then groups
    else groups_with groups (key_of packet) (piece_of packet now) (found_for limit groups (key_of packet) now)
    (is_some (datagram_with limit groups packet now))
