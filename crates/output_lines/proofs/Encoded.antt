-- A block of 16 octets turned into digits, and block after block.
use Rattle.std.proofs.Common.{◌≡◌, ◌∙◌, ℕ, zero, suc, ◌+◌, ◌*◌, ◌/◌, ◌%◌, ◌^◌, ◌<◌, ◌≤◌, true, cond, eqb, ltb, List, [], ◌∷◌, ◌++◌, length, map, take, replicate, slice_index, bit_and, refl, ap, sym, subst, arith, take-add, eqb-true}
use Rattle.std.proofs.lemmas.Bool.{agree_below_at}
use Rattle.std.proofs.lemmas.List.{append_assoc, take-take}
use Rattle.std.proofs.lemmas.Nat.{and_mask}
use Rattle.std.proofs.lemmas.Simd.{length-put_chunk, map-map, pick_l_whole, take_more_put_chunk, zip2_splat}
use lib.Lanes.{Each1, chunk, pick_l, put_chunk, sel_l, top, zip2}
use Rattle.hex.specs.Hex.{encode_lower, encode_with, lower_digits}
use Rattle.output_lines.proofs.Written.{encode_append}

-- ---- the digit of each value

abbrev digit : ℕ → ℕ
digit value = slice_index lower_digits value

-- as the code computes it
abbrev computed : ℕ → ℕ
computed value = (value + cond (top 7 (cond (ltb 9 value) 255 0)) 87 48) % 256

computed_right : (value : ℕ) → value < 16 → computed value ≡ digit value
computed_right value small = eqb-true _ _ (agree_below_at (λ x. eqb (computed x) (digit x)) (λ _. true) 16 value refl small)

abbrev computed_l : ℕ → List ℕ → List ℕ
computed_l n values =
    zip2 (λ a b. (a + b) % 256) values (sel_l (map (top 7) (zip2 (λ a b. cond (ltb a b) 255 0) (replicate n 9) values)) (replicate n 87) (replicate n 48))

all_right : (values : List ℕ) → Each1 (λ value. value < 16) values → computed_l (length values) values ≡ map (λ value. digit value) values
all_right [] small = refl
all_right (value ∷ values) small = λ i. computed_right value small.0 i ∷ all_right values small.1 i

pub digits_right : (values : List ℕ) → length values ≡ 16 → Each1 (λ value. value < 16) values → computed_l 16 values ≡ map (λ value. digit value) values
digits_right values long small = subst (λ n. computed_l n values ≡ map (λ value. digit value) values) long (all_right values small)

-- ---- both digits of each octet

-- what the shift of a lane does
abbrev down : ℕ → ℕ → ℕ
down a b = a / 2 ^ b

high_digits : (block high : List ℕ) → length block ≡ 16 → high ≡ map (λ value. digit value) (zip2 down block (replicate 16 4)) → high ≡ map (λ octet. digit (octet / 16)) block
high_digits block high long is = is ∙ ap (map (λ value. digit value)) (zip2_splat down block 16 4 long) ∙ map-map (λ value. digit value) (λ octet. octet / 16) block

low_digits : (block low : List ℕ) → length block ≡ 16 → low ≡ map (λ value. digit value) (zip2 bit_and block (replicate 16 15)) → low ≡ map (λ octet. digit (bit_and octet 15)) block
low_digits block low long is = is ∙ ap (map (λ value. digit value)) (zip2_splat bit_and block 16 15 long) ∙ map-map (λ value. digit value) (λ octet. bit_and octet 15) block

low_values : (block : List ℕ) → map (λ octet. digit (bit_and octet 15)) block ≡ map (λ octet. digit (octet % 16)) block
low_values block = λ i. map (λ octet. digit (and_mask octet 4 i)) block

-- the places at which the digits of the first 8 octets stand, and those of the last 8
abbrev first_places : List ℕ
first_places = 0 ∷ 16 ∷ 1 ∷ 17 ∷ 2 ∷ 18 ∷ 3 ∷ 19 ∷ 4 ∷ 20 ∷ 5 ∷ 21 ∷ 6 ∷ 22 ∷ 7 ∷ 23 ∷ []

abbrev last_places : List ℕ
last_places = 8 ∷ 24 ∷ 9 ∷ 25 ∷ 10 ∷ 26 ∷ 11 ∷ 27 ∷ 12 ∷ 28 ∷ 13 ∷ 29 ∷ 14 ∷ 30 ∷ 15 ∷ 31 ∷ []

abbrev woven_l : List ℕ → List ℕ → List ℕ
woven_l high low = pick_l 0 (high ++ low) first_places ++ pick_l 0 (high ++ low) last_places

all_woven : (block : List ℕ) → length block ≡ 16 → woven_l (map (λ octet. digit (octet / 16)) block) (map (λ octet. digit (octet % 16)) block) ≡ encode_lower block
unfolding encode_with
all_woven block long =
    subst (λ (octets : List ℕ). woven_l (map (λ octet. digit (octet / 16)) octets) (map (λ octet. digit (octet % 16)) octets) ≡ encode_lower octets) (pick_l_whole 0 block 16 long) refl

pub woven : (block high low : List ℕ) → length block ≡ 16 → high ≡ map (λ value. digit value) (zip2 down block (replicate 16 4)) → low ≡ map (λ value. digit value) (zip2 bit_and block (replicate 16 15)) → woven_l high low ≡ encode_lower block
woven block high low long is_high is_low =
    (λ i. woven_l (high_digits block high long is_high i) ((low_digits block low long is_low ∙ low_values block) i)) ∙ all_woven block long

-- ---- block after block

-- the digits of the octets before `at` stand there, and a block's are stored
pub block_stored : (octets digits first second : List ℕ) (at : ℕ) → length digits ≡ 2 * length octets → at + 16 ≤ length octets → length first ≡ 16 → length second ≡ 16
    → first ++ second ≡ encode_lower (chunk at 16 octets) → take (2 * at) digits ≡ encode_lower (take at octets)
    → take (2 * (at + 16)) (put_chunk (2 * at + 16) (put_chunk (2 * at) digits first) second) ≡ encode_lower (take (at + 16) octets)
block_stored octets digits first second at twice within first_long second_long are before =
    let stored = put_chunk (2 * at) digits first in
    let long : length stored ≡ length digits = length-put_chunk (2 * at) digits first in
    take_more_put_chunk (2 * at + 16) stored second (2 * (at + 16)) (omega arith) (omega arith)
    ∙ ap (λ front. front ++ second) (take_more_put_chunk (2 * at) digits first (2 * at + 16) (omega arith) (omega arith))
    ∙ append_assoc (take (2 * at) digits) first second
    ∙ (λ i. before i ++ are i)
    ∙ encode_append lower_digits (take at octets) (chunk at 16 octets)
    ∙ ap encode_lower (sym (take-add at 16 octets))

take_encode : (count : ℕ) (octets : List ℕ) → take (2 * count) (encode_lower octets) ≡ encode_lower (take count octets)
unfolding encode_with
take_encode zero octets = refl
take_encode (suc count) [] = none (2 * suc count)
  where
    none : (n : ℕ) → take {A = ℕ} n [] ≡ []
    none zero = refl
    none (suc n) = refl
take_encode (suc count) (octet ∷ octets) =
    let two : 2 * suc count ≡ suc (suc (2 * count)) = omega arith in
    rw (two, take_encode count octets) refl

-- of what stands there, a part from the front
pub fewer : (octets digits : List ℕ) (count at : ℕ) → at ≤ count → take (2 * count) digits ≡ encode_lower (take count octets) → take (2 * at) digits ≡ encode_lower (take at octets)
fewer octets digits count at within are =
    sym (take-take (2 * at) (2 * count) digits (omega arith)) ∙ ap (take (2 * at)) are ∙ take_encode at (take count octets) ∙ ap encode_lower (take-take at count octets within)
