-- Partial datagrams by their places.
use Rattle.std.specs.Prelude.{◌≡◌, ℕ, List, slice_get, Some}
use Rattle.ip_reassembly.specs.declared.partial.Partial.{Partial}

-- if one stands at this place, it is this one
abbrev pub IsAt : List Partial → ℕ → Partial → Type 0
IsAt partials place partial = (p : Partial) → slice_get partials place ≡ Some p → partial ≡ p
