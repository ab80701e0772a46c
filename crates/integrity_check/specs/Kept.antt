-- What is kept of the frames of one link on one network.
use Rattle.std.specs.Prelude.{◌≡◌, ℕ, List, Option}
use Rattle.link_rules.specs.Integrity.{latest}

pub record Kept : Type 0 where
  pub window : ℕ
  pub last : Option ℕ

-- what is kept is the window, and the latest of these sequence numbers
-- rule: INT-3
abbrev pub StandsFor : Kept → ℕ → List ℕ → Type 0
StandsFor kept window sequence_numbers = (kept.window ≡ window) × (kept.last ≡ latest sequence_numbers)
