-- What a store of one word leaves of the others.
use Rattle.std.proofs.Common.{◌≡◌, ◌≢◌, ℕ, ◌+◌, ◌<◌, List, length, set, Some, refl, ◌∙◌, arith}
use Rattle.std.proofs.lemmas.Bool.{ne_eqb}
use Rattle.std.proofs.lemmas.List.{get_or-set_other}
use Rattle.slot_core.specs.Limits.{most_slots, slot_words}
use Rattle.slot_core.specs.Words.{latest_number, announcement, place_of_slot_word, slot_of, slot_shown, word_for, Begins, ShowsWord}

-- a word that shows a message isn't 0, and its slot is found
pub shown_is : (word : ℕ) → 0 < word → slot_shown word ≡ Some (slot_of word)
shown_is word h = rw (ne_eqb word 0 (λ e. absurd (omega (arith, e, h)))) refl

pub has_word : (slots word message_number : ℕ) → ShowsWord slots word message_number → 0 < message_number → 0 < word
has_word slots word message_number shows h = let e = shows.0 in omega (arith, e, h)

pub slot_of-word_for : (message_number slot : ℕ) → slot < most_slots → slot_of (word_for message_number slot) ≡ slot
slot_of-word_for message_number slot h = omega arith

module _ (readers : ℕ) (words : List ℕ) (x : ℕ) where
  -- a store in another slot
  pub begins_elsewhere : (slot index other : ℕ) (message : List ℕ) → slot ≢ other → index < slot_words
      → Begins readers words other message → Begins readers (set words (place_of_slot_word readers slot index) x) other message
  begins_elsewhere slot index other message apart within begins = (
    begins.0,
    λ i h.
        let short : length message < slot_words + 1 = begins.0 in
        let differ : place_of_slot_word readers other i ≢ place_of_slot_word readers slot index = λ e. apart (omega (arith, e, short, h, within)) in
        get_or-set_other words (place_of_slot_word readers slot index) (place_of_slot_word readers other i) x 0 differ ∙ begins.1 i h,
  )

  -- a store in `latest` or in an announcement
  pub begins_above : (place slot : ℕ) (message : List ℕ) → place < 1 + readers
      → Begins readers words slot message → Begins readers (set words place x) slot message
  begins_above place slot message low begins = (
    begins.0,
    λ i h.
        let differ : place_of_slot_word readers slot i ≢ place = λ e. absurd (omega (arith, e, low)) in
        get_or-set_other words place (place_of_slot_word readers slot i) x 0 differ ∙ begins.1 i h,
  )

  pub latest_stays : (place : ℕ) → 0 < place → latest_number (set words place x) ≡ latest_number words
  latest_stays place h = get_or-set_other words place 0 x 0 (λ e. absurd (omega (arith, e, h)))

  pub announcement_stays : (place reader : ℕ) → 1 + reader ≢ place → announcement (set words place x) reader ≡ announcement words reader
  announcement_stays place reader differ = get_or-set_other words place (1 + reader) x 0 differ
