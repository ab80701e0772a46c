-- The words of a sampling port's table, by their places (own): `latest`, then the announcement of each
-- reader, then the slots.
use Rattle.std.specs.Prelude.{◌≡◌, ℕ, ◌+◌, ◌*◌, ◌%◌, ◌<◌, ◌==◌, List, length, slice_index, Option, None, Some, if◌then◌else◌}
use Rattle.slot_core.specs.Limits.{most_slots, slot_words}

abbrev pub latest_number : List ℕ → ℕ
latest_number words = slice_index words 0

-- rule: SAMP-2
abbrev pub announcement : List ℕ → ℕ → ℕ
announcement words reader = slice_index words (1 + reader)

-- the place of a word of a slot, in a table with this many readers
-- rule: SAMP-4
abbrev pub place_of_slot_word : ℕ → ℕ → ℕ → ℕ
place_of_slot_word readers slot index = 1 + readers + (slot_words * slot + index)

-- number of words of a table
-- rule: SAMP-4
abbrev pub table_words : ℕ → ℕ → ℕ
table_words readers slots = 1 + readers + slot_words * slots

-- ---- what `latest` and the announcements show

-- a message number and a slot in one word; 0 shows none
-- rule: SAMP-1
abbrev pub word_for : ℕ → ℕ → ℕ
word_for message_number slot = most_slots * message_number + slot

abbrev pub slot_of : ℕ → ℕ
slot_of word = word % most_slots

-- the slot that a word shows, if any
-- rule: SAMP-1
abbrev pub slot_shown : ℕ → Option ℕ
slot_shown word = if word == 0 then None else Some (slot_of word)

-- the word shows this message number, and one of this many slots
abbrev pub ShowsWord : ℕ → ℕ → ℕ → Type 0
ShowsWord slots word message_number = (word ≡ word_for message_number (slot_of word)) × (slot_of word < slots)

-- ---- what a slot holds

-- the slot begins with these words
abbrev pub Begins : ℕ → List ℕ → ℕ → List ℕ → Type 0
Begins readers words slot message =
    (length message < slot_words + 1) × ((i : ℕ) → i < length message → slice_index words (place_of_slot_word readers slot i) ≡ slice_index message i)
