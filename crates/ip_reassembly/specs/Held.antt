-- What a buffer holds of the pieces of one datagram.
use Rattle.std.specs.Prelude.{◌≡◌, ℕ, ◌+◌, ◌-◌, Bool, false, ◌&&◌, List, length, slice_index, slice_index_or, nat_le, nat_lt, Option, None, Some, if◌then◌else◌}
use Rattle.link_rules.specs.Fragments.{Piece, octet_at, total_of}

-- the datagram's length, if known; its octets, each at its place; and which of them came
pub record Held : Type 0 where
  pub total : Option ℕ
  pub octets : List ℕ
  pub marks : List Bool

-- the octet at a place, if one came
abbrev pub held_at : Held → ℕ → Option ℕ
held_at held i = if slice_index_or held.marks i false then Some (slice_index held.octets i) else None

-- these pieces are what is held
-- rule: REAS-8
pub record HoldsPieces (held : Held) (pieces : List Piece) : Type 0 where
  pub total_is : total_of pieces ≡ held.total
  pub octets_are : (i : ℕ) → octet_at pieces i ≡ held_at held i

-- the octet at a place, where a piece is written over what was there
-- rule: REAS-8
abbrev pub written_at : List ℕ → ℕ → List ℕ → ℕ → ℕ
written_at octets offset piece i =
    if nat_le offset i && nat_lt i (offset + length piece) then slice_index piece (i - offset) else slice_index octets i
