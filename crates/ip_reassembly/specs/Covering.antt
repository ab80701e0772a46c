-- Whether each octet below an end has come.
use Rattle.std.specs.Prelude.{◌≡◌, ℕ, ◌<◌, ◌≤◌, ◌⊎◌, Bool, true, false, List, length, slice_index_or}

-- at true each mark is set, and at false one isn't
abbrev pub AreSet : List Bool → Bool → Type 0
AreSet marks true = (i : ℕ) → i < length marks → slice_index_or marks i false ≡ true
AreSet marks false = (i : ℕ) × (i < length marks) × (slice_index_or marks i false ≡ false)

-- at true each place below the total is marked, or lies in the piece from offset to end; at false one
-- doesn't
abbrev pub AreCovered : List Bool → ℕ → ℕ → ℕ → Bool → Type 0
AreCovered marks offset end total true =
    (i : ℕ) → i < total → (slice_index_or marks i false ≡ true) ⊎ ((offset ≤ i) × (i < end))
AreCovered marks offset end total false =
    (i : ℕ) × (i < total) × (slice_index_or marks i false ≡ false) × ((i < offset) ⊎ (end ≤ i))
