-- The octets of a range of a message, word by word.
use Rattle.std.proofs.Common.{◌≡◌, ℕ, ◌+◌, ◌-◌, ◌*◌, ◌/◌, ◌%◌, ◌^◌, ◌<◌, ◌≤◌, List, ◌++◌, max, min, length, get_or, drop, sym, ap, ◌∙◌, arith, ⊎_elim}
use Rattle.std.specs.Prelude.{slice_index}
use Rattle.std.proofs.lemmas.Bool.{cases_lt}
use Rattle.std.proofs.lemmas.List.{get_or-drop, get_or_append_left, get_or-append_right, length-append, length-drop}
use Rattle.slot_core.specs.Octets.{octet_of_words}
use Rattle.sampling_port.specs.Ends.{IsHeldAfter, ReaderEnd}
use Rattle.sampling_port.specs.Partition.{IsCopyThatFits, most_tries, words_of_range}

-- an octet of a message stands in its word
pub octet_in_word : (words : List ℕ) (place k word : ℕ) → word ≡ slice_index words (2 + place) → 8 * place ≤ k → k < 8 * place + 8
    → word / 256 ^ (7 - (k - 8 * place)) % 256 ≡ octet_of_words words k
octet_in_word words place k word is low high =
    let at : k / 8 ≡ place = omega (arith, low, high) in
    let rest : k % 8 ≡ k - 8 * place = omega (arith, low, high) in
    ap (λ (w : ℕ). w / 256 ^ (7 - (k - 8 * place)) % 256) is
    ∙ sym (ap (λ (p : ℕ). slice_index words (2 + p) / 256 ^ (7 - k % 8) % 256) at ∙ ap (λ (r : ℕ). slice_index words (2 + place) / 256 ^ (7 - r) % 256) rest)

-- what was copied before, and then the octets of this word which are wanted
pub one_word_more : (words before after : List ℕ) (first place word from to : ℕ)
    → word ≡ slice_index words (2 + place)
    → from ≡ max first (8 * place)
    → to ≡ min (first + length after) (8 * place + 8)
    → ((k : ℕ) → first + k < 8 * place → k < length after → slice_index before k ≡ octet_of_words words (first + k))
    → ((i : ℕ) → i < to - from → slice_index after (from - first + i) ≡ word / 256 ^ (7 - (from - 8 * place + i)) % 256)
    → ((k : ℕ) → k < from - first → slice_index after k ≡ slice_index before k)
    → (k : ℕ) → first + k < 8 * (place + 1) → k < length after → slice_index after k ≡ octet_of_words words (first + k)
one_word_more words before after first place word from to is from_is to_is done within kept k high inside = ⊎_elim
    (λ (early : first + k < 8 * place). kept k (omega (arith, from_is, early)) ∙ done k early inside)
    (λ (here : 8 * place ≤ first + k).
    let i : ℕ = first + k - from in
    let at : from - first + i ≡ k = omega (arith, from_is, here) in
    let offset : from - 8 * place + i ≡ first + k - 8 * place = omega (arith, from_is, here) in
    ap (λ (z : ℕ). slice_index after z) (sym at) ∙ within i (omega (arith, from_is, to_is, here, high, inside))
    ∙ ap (λ (z : ℕ). word / 256 ^ (7 - z) % 256) offset
    ∙ octet_in_word words place (first + k) word is here (omega (arith, high)))
    (cases_lt (first + k) (8 * place))

-- ---- a read

-- a copy to the beginning of `out` of the octets for which it has room
pub copy_that_fits : (words front before : List ℕ) (len count : ℕ) → count ≡ min len (length before) → length front ≡ count
    → ((k : ℕ) → k < length front → slice_index front k ≡ octet_of_words words k)
    → IsCopyThatFits words before (front ++ drop count before) len
copy_that_fits words front before len count is size same = record {
  octets = λ k low inside.
      let all : length (front ++ drop count before) ≡ length front + length (drop count before) = length-append front (drop count before) in
      let rest : length (drop count before) ≡ length before - count = length-drop count before in
      let here : k < length front = omega (arith, is, size, low, inside, all, rest) in
      get_or_append_left front (drop count before) 0 k here ∙ same k here;
  others = λ k high.
      let past : count ≤ k = omega (arith, is, high) in
      let place : count + (k - count) ≡ k = omega (arith, past) in
      get_or-append_right front (drop count before) count k 0 size past ∙ get_or-drop count before (k - count) 0 ∙ ap (λ (z : ℕ). get_or before z 0) place;
}

-- a message that is held, and then its words are loaded and it is released
pub held_and_released : (v held after : ReaderEnd) (count : ℕ) → IsHeldAfter v held most_tries 2
    → after ≡ record held { steps = held.steps + words_of_range 0 count + 1 }
    → IsHeldAfter v after most_tries (3 + (count + 7) / 8)
held_and_released v held after count hold is = rw is (record {
  seen = hold.seen;
  some = hold.some;
  message = hold.message;
  failed = hold.failed;
  within = hold.within;
  looks = hold.looks;
  steps = let steps = hold.steps in omega (arith, steps);
})
