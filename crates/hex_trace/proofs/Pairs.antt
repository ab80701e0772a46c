-- Pair after pair of hexadecimal digits.
use Rattle.std.proofs.Common.{◌≡◌, ◌∙◌, ℕ, zero, suc, ◌+◌, ◌*◌, ◌%◌, ◌<◌, ◌≤◌, Bool, true, false, ◌&&◌, nat_lt, List, [], ◌∷◌, length, take, drop, get_or, slice_index, slice_set, Option, None, Some, Ok, Err, MatchResult, refl, ap, sym, arith}
use Rattle.std.proofs.Math.Nat.{add-zero}
use Rattle.std.proofs.lemmas.Bool.{lt-ltb}
use Rattle.std.proofs.lemmas.List.{drop-drop, get_or-drop, get_or-take}
use Rattle.std.specs.Simd.{first_chunks}
use Rattle.hex.specs.Hex.{decode_of, decode_pairs, digit_or_error, hex_digit_value, pair_value, value_at}
use Rattle.hex.specs.declared.error.FromHexError.{FromHexError}
use Rattle.hex.specs.declared.error.FromHexError.TheVariants.{InvalidHexCharacter}
use Rattle.hex.proofs.Pairs.{prepend, decode_step, decode_err, decode_done}
use Rattle.hex.proofs.HexLemmas.{decode_of-even}
use Rattle.hex_trace.specs.Digits.{value_or_none}

-- so far all were digits, and the octets of the first `i` pairs stand in front; or one was none
abbrev pub Decoded : Bool → List ℕ → List ℕ → ℕ → Type 0
Decoded true digits octets i = decode_pairs 0 digits ≡ prepend (take i octets) (decode_pairs (2 * i) (drop (2 * i) digits))
Decoded false digits octets i = (error : FromHexError) × (decode_pairs 0 digits ≡ Err error)

small : (c v : ℕ) → hex_digit_value c ≡ Some v → v < 16
small c v is = grind (arith)

-- one pair more, by what its digits are worth
by_values : (x y : Option ℕ) (s out : List ℕ) (i a b : ℕ) → hex_digit_value (slice_index s (2 * i)) ≡ x → hex_digit_value (slice_index s (2 * i + 1)) ≡ y
    → 2 * i + 1 < length s → i < length out → a ≡ value_or_none x → b ≡ value_or_none y → Decoded true s out i
    → Decoded ((true && nat_lt a 16) && nat_lt b 16) s (slice_set out i ((a * 16 % 256 + b) % 256)) (i + 1)
by_values (Some h) (Some l) s out i a b high low fits room is_a is_b before =
    let h_small = small (slice_index s (2 * i)) h high in
    let l_small = small (slice_index s (2 * i + 1)) l low in
    let first : value_at (slice_index s (2 * i)) (2 * i) ≡ Ok h = ap (digit_or_error (slice_index s (2 * i)) (2 * i)) high in
    let second : value_at (slice_index s (2 * i + 1)) (2 * i + 1) ≡ Ok l = ap (digit_or_error (slice_index s (2 * i + 1)) (2 * i + 1)) low in
    let pair : pair_value (slice_index s (2 * i)) (slice_index s (2 * i + 1)) (2 * i) ≡ Ok (h * 16 + l) = rw (first, second) refl in
    let value : (h * 16 % 256 + l) % 256 ≡ h * 16 + l = omega arith in
    rw (is_a, is_b, lt-ltb h 16 h_small, lt-ltb l 16 l_small, value) (decode_step s out i (h * 16 + l) fits room pair before)
by_values (Some h) None s out i a b high low fits room is_a is_b before =
    let h_small = small (slice_index s (2 * i)) h high in
    let first : value_at (slice_index s (2 * i)) (2 * i) ≡ Ok h = ap (digit_or_error (slice_index s (2 * i)) (2 * i)) high in
    let second : value_at (slice_index s (2 * i + 1)) (2 * i + 1) ≡ Err (InvalidHexCharacter (slice_index s (2 * i + 1)) (2 * i + 1)) = ap (digit_or_error (slice_index s (2 * i + 1)) (2 * i + 1)) low in
    let pair : pair_value (slice_index s (2 * i)) (slice_index s (2 * i + 1)) (2 * i) ≡ Err (InvalidHexCharacter (slice_index s (2 * i + 1)) (2 * i + 1)) = rw (first, second) refl in
    rw (is_a, is_b, lt-ltb h 16 h_small) (InvalidHexCharacter (slice_index s (2 * i + 1)) (2 * i + 1), decode_err s out i _ fits pair before)
by_values None y s out i a b high low fits room is_a is_b before =
    let first : value_at (slice_index s (2 * i)) (2 * i) ≡ Err (InvalidHexCharacter (slice_index s (2 * i)) (2 * i)) = ap (digit_or_error (slice_index s (2 * i)) (2 * i)) high in
    let pair : pair_value (slice_index s (2 * i)) (slice_index s (2 * i + 1)) (2 * i) ≡ Err (InvalidHexCharacter (slice_index s (2 * i)) (2 * i)) = rw first refl in
    rw is_a (InvalidHexCharacter (slice_index s (2 * i)) (2 * i), decode_err s out i _ fits pair before)

-- one pair more
pub one_more : (fine : Bool) (s out : List ℕ) (i a b : ℕ) → 2 * i + 1 < length s → i < length out
    → a ≡ value_or_none (hex_digit_value (slice_index s (2 * i))) → b ≡ value_or_none (hex_digit_value (slice_index s (2 * i + 1))) → Decoded fine s out i
    → Decoded ((fine && nat_lt a 16) && nat_lt b 16) s (slice_set out i ((a * 16 % 256 + b) % 256)) (i + 1)
one_more true s out i a b fits room is_a is_b before = by_values _ _ s out i a b refl refl fits room is_a is_b before
one_more false s out i a b fits room is_a is_b before = before

-- all pairs
pub all_pairs : (fine : Bool) (s out : List ℕ) (i : ℕ) → length out ≤ i → length s ≡ 2 * length out → Decoded fine s out i
    → MatchResult (decode_of s) (λ said. (fine ≡ true) × (out ≡ said)) (λ _. fine ≡ false)
all_pairs true s out i end twice said = rw (decode_of-even s (omega arith) ∙ decode_done s out i end (omega arith) said) (refl, refl)
all_pairs false s out i end twice said = rw (decode_of-even s (omega arith) ∙ said.1) refl

pair_at : (s : List ℕ) (k i : ℕ) → i < k → get_or (first_chunks 2 k s) i [] ≡ take 2 (drop (2 * i) s)
pair_at s zero i within = absurd (omega arith)
pair_at s (suc k) zero within = refl
pair_at s (suc k) (suc i) within =
    let two : 2 + 2 * i ≡ 2 * suc i = omega arith in
    pair_at (drop 2 s) k i (omega arith) ∙ ap (take 2) (drop-drop (2 * i) 2 s ∙ ap (λ n. drop n s) two)

-- the digits of a pair
pub digit_at : (s : List ℕ) (k i j place : ℕ) → i < k → j < 2 → place ≡ 2 * i + j → get_or (get_or (first_chunks 2 k s) i []) j 0 ≡ slice_index s place
digit_at s k i j place within half is = rw (pair_at s k i within, is) (get_or-take 2 (drop (2 * i) s) j 0 half ∙ get_or-drop (2 * i) s j 0)

-- the pair that stands first in what is left, and what is left after it
pub next_pair : (i : ℕ) (xs rest : List (List ℕ)) (x : List ℕ) → drop i xs ≡ x ∷ rest → (get_or xs i [] ≡ x) × (drop (i + 1) xs ≡ rest)
next_pair i xs rest x left =
    let first : get_or (drop i xs) 0 [] ≡ x = ap (λ ys. get_or ys 0 []) left in
    let more : drop 1 (drop i xs) ≡ rest = ap (drop 1) left in
    (ap (λ n. get_or xs n []) (sym (add-zero i)) ∙ sym (get_or-drop i xs 0 []) ∙ first, sym (drop-drop 1 i xs) ∙ more)
