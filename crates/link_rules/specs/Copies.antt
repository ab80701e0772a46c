-- Which of the copies of a frame is the first (ARINC 664 Part 7, redundancy management; order and table
-- own).
use Rattle.std.specs.Prelude.{ℕ, ◌+◌, ◌-◌, ◌%◌, ◌==◌, Bool, true, ◌&&◌, ◌||◌, nat_le, nat_lt, max, List, [], ◌∷◌, Option, None, Some, if◌then◌else◌}
use Rattle.es_base.specs.Age.{elapsed}

-- a frame that was forwarded: its sequence number, and its time in microseconds
pub record Forwarded : Type 0 where
  pub sequence_number : ℕ
  pub time : ℕ

-- ---- the first copy

-- whether sequence number r is ahead of p, that of the frame forwarded last:
--   after 0, the numbers 1 to 127;
--   0, after the numbers 128 to 255;
--   and of the numbers 1 to 255, on their circle of 255, the 127 after p
-- rule: RM-7
abbrev pub is_ahead : ℕ → ℕ → Bool
is_ahead p r =
    if p == 0 then nat_le 1 r && nat_le r 127
    else if r == 0 then nat_le 128 p
    else nat_le 1 ((r + 255 - p) % 255) && nat_le ((r + 255 - p) % 255) 127

-- the greatest time of all that were forwarded
-- rule: RM-3
abbrev pub greatest_time : List Forwarded → ℕ
greatest_time [] = 0
greatest_time (frame ∷ earlier) = max frame.time (greatest_time earlier)

-- Whether a frame with this sequence number at this time is the first copy of its kind, after these
-- were forwarded, the latest first: none was; or the greatest time of those is more than SkewMax ago;
-- or its sequence number is ahead of that of the one forwarded last.
-- rule: RM-2, RM-3, RM-4
abbrev pub is_first_copy : ℕ → List Forwarded → ℕ → ℕ → Bool
is_first_copy skew_max [] sequence_number now = true
is_first_copy skew_max (frame ∷ earlier) sequence_number now =
    nat_lt skew_max (elapsed now (greatest_time (frame ∷ earlier))) || is_ahead frame.sequence_number sequence_number

-- what the next frame is compared with: the sequence number of the latest, and the greatest time of all
abbrev pub summary_of : List Forwarded → Option Forwarded
summary_of [] = None
summary_of (frame ∷ earlier) = Some (record { sequence_number = frame.sequence_number; time = greatest_time (frame ∷ earlier) })
