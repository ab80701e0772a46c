-- From the marks of 32 digits to 16 octets, and from these to all.
use Rattle.std.proofs.Common.{◌≡◌, ◌∙◌, ℕ, zero, suc, ◌+◌, ◌-◌, ◌*◌, ◌/◌, ◌%◌, ◌<◌, ◌≤◌, ◌↔◌, Bool, true, false, List, length, get_or, replicate, slice_index, slice_set, Option, None, Some, is_some, Result, Ok, Err, MatchResult, refl, ap, sym, subst, arith, inl, inr}
use Rattle.std.proofs.lemmas.Bool.{cases_eq, cases_lt}
use Rattle.std.proofs.lemmas.List.{set-get_or}
use Rattle.std.proofs.lemmas.List.Elements.{All-get_or}
use Rattle.std.proofs.lemmas.Simd.{get_or-chunk, get_or-put_chunk_at, get_or-replicate}
use lib.Lanes.{chunk, put_chunk}
use Rattle.hex.specs.Hex.{decode_of, digit_or_error, hex_digit_value, is_hex_digit, pair_value, value_at}
use Rattle.hex.specs.declared.error.FromHexError.{FromHexError}
use Rattle.hex.proofs.HexLemmas.{decode_of-ok}
use Rattle.hex.proofs.Pairs.{decode_step, decode_start}
use Rattle.hex_trace.specs.Digits.{AreMarks, IsMark, IsMarkFor, IsPairAt, octet_of_pair, value_or_none}
use Rattle.hex_trace.proofs.Pairs.{Decoded, all_pairs}

-- ---- one block

marked : (value : Option ℕ) (mark : ℕ) → IsMarkFor value mark → (240 ≤ mark) ↔ (is_some value ≡ true)
marked (Some value) mark is = (λ _. refl, λ _. omega (arith, is))
marked None mark is = (λ many. absurd (omega (arith, is)), λ some. cc some)

value_in : (value : Option ℕ) (mark : ℕ) → IsMarkFor value mark → is_some value ≡ true → mark - 240 ≡ value_or_none value
value_in (Some value) mark is some = omega (arith, is)
value_in None mark is some = cc some

-- the marks of the 32 digits that begin at twice `at`
module _ (digits marks : List ℕ) (at : ℕ) (are : (i : ℕ) → i < 32 → IsMark (get_or (chunk (2 * at) 32 digits) i 0) (get_or marks i 0)) where
  mark_at : (place : ℕ) → 2 * at ≤ place → place < 2 * at + 32 → IsMark (get_or digits place 0) (get_or marks (place - 2 * at) 0)
  mark_at place from to =
      let there : 2 * at + (place - 2 * at) ≡ place = omega arith in
      let within : place - 2 * at < 32 = omega arith in
      subst (λ b. IsMark b (get_or marks (place - 2 * at) 0)) (get_or-chunk (2 * at) 32 digits (place - 2 * at) 0 within ∙ ap (λ k. get_or digits k 0) there) (are (place - 2 * at) within)

  shows : (place : ℕ) → 2 * at ≤ place → place < 2 * at + 32 → (240 ≤ get_or marks (place - 2 * at) 0) ↔ (is_hex_digit (get_or digits place 0) ≡ true)
  shows place from to = marked (hex_digit_value (get_or digits place 0)) (get_or marks (place - 2 * at) 0) (mark_at place from to)

  one_shown : ((i : ℕ) → at ≤ i → i < at + 16 → IsPairAt digits i) → (place : ℕ) → 2 * at ≤ place → place < 2 * at + 32 → is_hex_digit (get_or digits place 0) ≡ true
  one_shown pairs place from to =
      let pair = pairs (place / 2) (omega arith) (omega arith) in
      elim (cases_eq (place % 2) 0) [
        | inl even ↦ let is : 2 * (place / 2) ≡ place = omega arith in subst (λ k. is_hex_digit (get_or digits k 0) ≡ true) is pair.0
        | inr odd ↦ let is : 2 * (place / 2) + 1 ≡ place = omega arith in subst (λ k. is_hex_digit (get_or digits k 0) ≡ true) is pair.1
      ]

  pub pairs_shown : AreMarks marks ↔ ((i : ℕ) → at ≤ i → i < at + 16 → IsPairAt digits i)
  pairs_shown = (
    λ all i from to. (
      (shows (2 * i) (omega arith) (omega arith)).0 (all (2 * i - 2 * at) (omega arith)),
      (shows (2 * i + 1) (omega arith) (omega arith)).0 (all (2 * i + 1 - 2 * at) (omega arith)),
    ),
    λ pairs i within.
        let is : 2 * at + i - 2 * at ≡ i = omega arith in
        subst (λ k. 240 ≤ get_or marks k 0) is ((shows (2 * at + i) (omega arith) (omega arith)).1 (one_shown pairs (2 * at + i) (omega arith) (omega arith))),
  )

  pub octet_written : (before octets : List ℕ) → length octets ≡ 16 → at + 16 ≤ length before
      → ((i : ℕ) → i < 16 → 240 ≤ get_or marks (2 * i) 0 → 240 ≤ get_or marks (2 * i + 1) 0 → get_or octets i 0 ≡ (get_or marks (2 * i) 0 - 240) * 16 + (get_or marks (2 * i + 1) 0 - 240))
      → (i : ℕ) → at ≤ i → i < at + 16 → IsPairAt digits i → get_or (put_chunk at before octets) i 0 ≡ octet_of_pair digits i
  octet_written before octets long room said i from to pair =
      let there : at + (i - at) ≡ i = omega arith in
      let first : 2 * i - 2 * at ≡ 2 * (i - at) = omega arith in
      let second : 2 * i + 1 - 2 * at ≡ 2 * (i - at) + 1 = omega arith in
      let high = subst (λ k. IsMark (get_or digits (2 * i) 0) (get_or marks k 0)) first (mark_at (2 * i) (omega arith) (omega arith)) in
      let low = subst (λ k. IsMark (get_or digits (2 * i + 1) 0) (get_or marks k 0)) second (mark_at (2 * i + 1) (omega arith) (omega arith)) in
      let stored = sym (ap (λ k. get_or (put_chunk at before octets) k 0) there) ∙ get_or-put_chunk_at at before octets (i - at) 0 (omega (arith, long)) (omega (arith, long)) in
      let value = said (i - at) (omega arith) ((marked _ _ high).1 pair.0) ((marked _ _ low).1 pair.1) in
      stored ∙ value ∙ rw (value_in _ _ high pair.0, value_in _ _ low pair.1) refl

-- ---- all octets

pair_ok : (a b place : ℕ) (high low : Option ℕ) → hex_digit_value a ≡ high → hex_digit_value b ≡ low → is_some high ≡ true → is_some low ≡ true
    → pair_value a b place ≡ Ok (value_or_none high * 16 + value_or_none low)
pair_ok a b place (Some high) (Some low) is_high is_low _ _ =
    let first : value_at a place ≡ Ok high = ap (digit_or_error a place) is_high in
    let second : value_at b (place + 1) ≡ Ok low = ap (digit_or_error b (place + 1)) is_low in
    rw (first, second) refl
pair_ok a b place (Some high) None is_high is_low _ some = cc some
pair_ok a b place None low is_high is_low some _ = cc some

-- the octets of the first `count` pairs
so_far : (digits octets : List ℕ) → length digits ≡ 2 * length octets
    → ((i : ℕ) → i < length octets → IsPairAt digits i) → ((i : ℕ) → i < length octets → get_or octets i 0 ≡ octet_of_pair digits i)
    → (count : ℕ) → count ≤ length octets → Decoded true digits octets count
so_far digits octets twice pairs said zero within = decode_start digits octets
so_far digits octets twice pairs said (suc i) within =
    let pair = pairs i (omega arith) in
    let value = pair_ok (slice_index digits (2 * i)) (slice_index digits (2 * i + 1)) (2 * i) _ _ refl refl pair.0 pair.1 in
    let same : slice_set octets i (octet_of_pair digits i) ≡ octets = ap (slice_set octets i) (sym (said i (omega arith))) ∙ set-get_or octets i 0 in
    let next : suc i ≡ i + 1 = omega arith in
    rw next (subst (λ out. Decoded true digits out (i + 1)) same
    (decode_step digits octets i (octet_of_pair digits i) (omega (arith, twice)) (omega arith) value (so_far digits octets twice pairs said i (omega arith))))

-- if all pairs are digits, their octets are what the digits say
pub decoded : (fine : Bool) (digits octets : List ℕ) → length digits ≡ 2 * length octets
    → (fine ≡ true) ↔ ((i : ℕ) → i < length octets → IsPairAt digits i)
    → ((i : ℕ) → i < length octets → IsPairAt digits i → get_or octets i 0 ≡ octet_of_pair digits i)
    → MatchResult (decode_of digits) (λ said. (fine ≡ true) × (octets ≡ said)) (λ _. fine ≡ false)
decoded true digits octets twice pairs said =
    let are = pairs.0 refl in
    all_pairs true digits octets (length octets) (omega arith) twice (so_far digits octets twice are (λ i within. said i within (are i within)) (length octets) (omega arith))
decoded false digits octets twice pairs said = refused (decode_of digits) refl
  where
    refused : (result : Result (List ℕ) FromHexError) → decode_of digits ≡ result → MatchResult result (λ said. (false ≡ true) × (octets ≡ said)) (λ _. false ≡ false)
    refused (Err error) is = refl
    refused (Ok bytes) is =
        let all = (decode_of-ok digits bytes is).1 in
        let digit = λ (k : ℕ) (within : k < length digits). All-get_or (λ b. is_hex_digit b ≡ true) digits k 0 within all in
        let wrong = pairs.1 (λ i within. (digit (2 * i) (omega (arith, twice)), digit (2 * i + 1) (omega (arith, twice)))) in
        cc wrong

-- ---- block after block

-- the marks of the first `count` pairs and of a block's, whose end is `next`
pub more_marks : (digits least marks both : List ℕ) (count at next : ℕ) → at ≤ count → count ≤ next → next ≡ at + 16 → AreMarks both ↔ (AreMarks least × AreMarks marks)
    → AreMarks least ↔ ((i : ℕ) → i < count → IsPairAt digits i) → AreMarks marks ↔ ((i : ℕ) → at ≤ i → i < at + 16 → IsPairAt digits i)
    → AreMarks both ↔ ((i : ℕ) → i < next → IsPairAt digits i)
more_marks digits least marks both count at next no_gap within end joined first block = (
  λ all i early. elim (cases_lt i count) [ inl old ↦ first.0 (joined.0 all).0 i old | inr new ↦ block.0 (joined.0 all).1 i (omega arith) (omega arith) ],
  λ pairs. joined.1 (first.1 (λ i early. pairs i (omega arith)), block.1 (λ i from to. pairs i (omega arith))),
)

-- the octets of the first `count` pairs, and a block more
pub more_octets : (digits before after : List ℕ) (count at next : ℕ) → at ≤ count → next ≡ at + 16
    → ((i : ℕ) → i < count → IsPairAt digits i → get_or before i 0 ≡ octet_of_pair digits i) → ((i : ℕ) → i < at → get_or after i 0 ≡ get_or before i 0)
    → ((i : ℕ) → at ≤ i → i < at + 16 → IsPairAt digits i → get_or after i 0 ≡ octet_of_pair digits i)
    → (i : ℕ) → i < next → IsPairAt digits i → get_or after i 0 ≡ octet_of_pair digits i
more_octets digits before after count at next no_gap end first kept block i early pair =
    elim (cases_lt i at) [ inl old ↦ kept i old ∙ first i (omega arith) pair | inr new ↦ block i new (omega arith) pair ]

-- before the first block
pub no_marks : (digits : List ℕ) → AreMarks (replicate 32 240) ↔ ((i : ℕ) → i < 0 → IsPairAt digits i)
no_marks digits = (λ all i early. absurd (omega arith), λ pairs i within. rw (get_or-replicate {A = ℕ} 32 i 240 0 within) (omega arith))
