-- What is kept of the frames of one link that were forwarded.
use Rattle.std.specs.Prelude.{◌≡◌, ℕ, List, [], ◌∷◌, Option, None, Some}
use Rattle.link_rules.specs.Redundancy.{Forwarded, greatest_time}

-- the sequence number of the latest, and the greatest time of all, in microseconds
pub record Summary : Type 0 where
  pub latest_number : ℕ
  pub greatest_time : ℕ

pub record Kept : Type 0 where
  pub skew_max : ℕ
  pub summary : Option Summary

-- the summary of some frames, the latest first
abbrev pub kept_summary : List Forwarded → Option Summary
kept_summary [] = None
kept_summary (frame ∷ earlier) =
    Some (record { latest_number = frame.sequence_number; greatest_time = greatest_time (frame ∷ earlier) })

-- what is kept is SkewMax, and the summary of these frames
-- rule: RM-3, RM-4
abbrev pub StandsFor : Kept → ℕ → List Forwarded → Type 0
StandsFor kept skew_max frames = (kept.skew_max ≡ skew_max) × (kept.summary ≡ kept_summary frames)
