-- The words of a message, one more at a time; lists of messages.
use Rattle.std.proofs.Common.{◌≡◌, ℕ, ◌+◌, ◌-◌, ◌<◌, ◌≤◌, List, [], ◌∷◌, ◌++◌, length, get_or, sym, ap, ◌∙◌, arith, subst, length-append, append-nil, ⊎_elim}
use Rattle.std.proofs.lemmas.Bool.{cases_lt}
use Rattle.std.proofs.lemmas.List.{append_assoc, get_or_append_left, get_or_push, length_push}
use Rattle.slot_core.specs.Limits.{longest_message}
use Rattle.slot_core.specs.Message.{words_for, octets_after_end, IsPadded, IsStart}
use Rattle.slot_core.specs.State.{StartsWithSeen, last_of}

-- what holds of each element holds with one more
pub each_more : {X : Type 0} (P : ℕ → X → Type 0) (xs : List X) (x d : X) → ((i : ℕ) → i < length xs → P i (get_or xs i d)) → P (length xs) x
    → (i : ℕ) → i < length (xs ++ x ∷ []) → P i (get_or (xs ++ x ∷ []) i d)
each_more {X} P xs x d each here i h =
    ⊎_elim
    (λ (low : i < length xs). rw (get_or_append_left xs (x ∷ []) d i low) (each i low))
    (λ (high : length xs ≤ i).
    let e : length xs ≡ i = omega (arith, length_push xs x, h, high) in
    rw (get_or_push xs x d i e) (let Q : ℕ → Type 0 = λ j. P j x in subst Q e here))
    (cases_lt i (length xs))

pub no_octets_before : (octets : ℕ) (word : ℕ) → IsPadded octets 0 word
no_octets_before octets word =
    let e : octets_after_end octets 0 ≡ 0 = omega arith in
    rw e (omega arith)

pub start_first : (word : ℕ) → word ≤ longest_message → IsStart (word ∷ [])
start_first word short = record {
  one = omega arith;
  short = short;
  within = omega arith;
  padded = each_more (λ i x. IsPadded word i x) [] word 0 (λ i h. absurd (omega (arith, h))) (no_octets_before word word);
}

pub start_more : (words : List ℕ) (word : ℕ) → IsStart words → length words < words_for (get_or words 0 0)
    → IsPadded (get_or words 0 0) (length words) word → IsStart (words ++ word ∷ [])
start_more words word start more padded =
    let e : get_or (words ++ word ∷ []) 0 0 ≡ get_or words 0 0 = get_or_append_left words (word ∷ []) 0 0 start.one in
    let n : length (words ++ word ∷ []) ≡ length words + 1 = length_push words word in
    record {
      one = omega (arith, n);
      short = rw e start.short;
      within = rw (e, n) (omega (arith, more));
      padded = rw e (each_more (λ i x. IsPadded (get_or words 0 0) i x) words word 0 start.padded padded);
    }

-- ---- lists of messages

pub last_of-push : (messages : List (List ℕ)) (message : List ℕ) → last_of (messages ++ message ∷ []) ≡ message
last_of-push messages message =
    get_or_push messages message [] (length (messages ++ message ∷ []) - 1) (omega (arith, length_push messages message))

pub starts_with_more : (all seen : List (List ℕ)) (message : List ℕ) → StartsWithSeen all seen → StartsWithSeen (all ++ message ∷ []) seen
starts_with_more all seen message starts =
    (starts.0 ++ message ∷ [], ap (λ ms. ms ++ message ∷ []) starts.1 ∙ append_assoc seen starts.0 (message ∷ []))

pub seen_all : (all : List (List ℕ)) → StartsWithSeen all all
seen_all all = ([], sym (append-nil all))

pub length-seen : (all seen : List (List ℕ)) → StartsWithSeen all seen → length seen ≤ length all
length-seen all seen starts =
    let e = ap length starts.1 ∙ length-append seen starts.0 in
    omega (arith, e)
