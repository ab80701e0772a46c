-- The words of a message (own): its length in octets, its time in microseconds, and its octets, eight to
-- a word, most significant first, with zeros after the end.
use Rattle.std.specs.Prelude.{◌≡◌, ℕ, ◌+◌, ◌-◌, ◌*◌, ◌/◌, ◌%◌, ◌^◌, ◌<◌, ◌≤◌, List, length, slice_index}
use Rattle.slot_core.specs.Limits.{longest_message}

-- number of words of a message of this many octets
abbrev pub words_for : ℕ → ℕ
words_for octets = 2 + (octets + 7) / 8

-- number of octets of the word at this index after the end of a message of this many octets
abbrev pub octets_after_end : ℕ → ℕ → ℕ
octets_after_end octets index = 8 * (index - 1) - octets

-- they are zeros
-- rule: SAMP-3
abbrev pub IsPadded : ℕ → ℕ → ℕ → Type 0
IsPadded octets index word = word % 256 ^ octets_after_end octets index ≡ 0

-- the words begin those of a message
pub record IsStart (words : List ℕ) : Type 0 where
  pub one : 0 < length words
  pub short : slice_index words 0 ≤ longest_message
  pub within : length words ≤ words_for (slice_index words 0)
  pub padded : (i : ℕ) → i < length words → IsPadded (slice_index words 0) i (slice_index words i)

-- the words are those of a message
-- rule: SAMP-3
pub record IsMessage (words : List ℕ) : Type 0 where
  pub start : IsStart words
  pub whole : length words ≡ words_for (slice_index words 0)
