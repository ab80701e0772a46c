-- The octets of a word, and the word of eight octets.
use Rattle.std.proofs.Common.{◌≡◌, ℕ, zero, suc, ◌+◌, ◌-◌, ◌*◌, ◌/◌, ◌%◌, ◌^◌, ◌<◌, ◌≤◌, List, ◌++◌, length, get_or, take, drop, replicate, w64, refl, sym, ap, ◌∙◌, arith, ⊎_elim}
use Rattle.std.specs.Int.{to_be_bytes}
use Rattle.std.proofs.lemmas.List.{get_or-take, get_or-drop, get_or-replicate, get_or_append_left, get_or-append_right, get_or_past, length-take-le, length-drop}
use Rattle.std.proofs.lemmas.Bool.{cases_lt}
use Rattle.byteorder.specs.Endian.{big_number}
use Rattle.slot_core.specs.Octets.{word_at}

-- an octet of a word, the first one most significant
pub octet_of : (word i : ℕ) → i < 8 → get_or (to_be_bytes w64 word) i 0 ≡ word / 256 ^ (7 - i) % 256
octet_of word zero h = refl
octet_of word (suc zero) h = refl
octet_of word (suc (suc zero)) h = refl
octet_of word (suc (suc (suc zero))) h = refl
octet_of word (suc (suc (suc (suc zero)))) h = refl
octet_of word (suc (suc (suc (suc (suc zero))))) h = refl
octet_of word (suc (suc (suc (suc (suc (suc zero)))))) h = refl
octet_of word (suc (suc (suc (suc (suc (suc (suc zero))))))) h = omega arith
octet_of word (suc (suc (suc (suc (suc (suc (suc (suc i)))))))) h = absurd (omega (arith, h))

-- what was put in the middle of a list stands there
pub in_the_middle : (a : ℕ) (xs ys rest : List ℕ) (i : ℕ) → a ≤ length xs → i < length ys → get_or (take a xs ++ (ys ++ rest)) (a + i) 0 ≡ get_or ys i 0
in_the_middle a xs ys rest i fits low =
    let at : a + i - a ≡ i = omega arith in
    get_or-append_right (take a xs) (ys ++ rest) a (a + i) 0 (length-take-le a xs fits) (omega arith) ∙ ap (λ (z : ℕ). get_or (ys ++ rest) z 0) at ∙ get_or_append_left ys rest 0 i low

-- these octets with zeros after them
pub with_zeros : (ys : List ℕ) (k i : ℕ) → get_or (ys ++ drop k (replicate 8 0)) i 0 ≡ get_or ys i 0
with_zeros ys k i = ⊎_elim
    (λ (low : i < length ys). get_or_append_left ys (drop k (replicate 8 0)) 0 i low)
    (λ (high : length ys ≤ i). get_or-append_right ys (drop k (replicate 8 0)) (length ys) i 0 refl high ∙ zeros (i - length ys) ∙ sym (get_or_past ys i 0 high))
    (cases_lt i (length ys))
  where
    zeros : (j : ℕ) → get_or (drop k (replicate {A = ℕ} 8 0)) j 0 ≡ 0
    zeros j = get_or-drop k (replicate {A = ℕ} 8 0) j 0 ∙ ⊎_elim (λ (low : k + j < 8). get_or-replicate 8 (k + j) 0 0 low) (λ (high : 8 ≤ k + j). get_or_past (replicate {A = ℕ} 8 0) (k + j) 0 high) (cases_lt (k + j) 8)

-- the octets from a place on
pub from_place : (octets : List ℕ) (first i : ℕ) → first ≤ length octets → get_or (take (length octets - first) (drop first octets)) i 0 ≡ get_or octets (first + i) 0
from_place octets first i within = ⊎_elim
    (λ (low : i < length octets - first). get_or-take (length octets - first) (drop first octets) i 0 low ∙ get_or-drop first octets i 0)
    (λ (high : length octets - first ≤ i). get_or_past (take (length octets - first) (drop first octets)) i 0 (let size = length-take-le (length octets - first) (drop first octets) (let z = length-drop first octets in omega (arith, z)) in omega (arith, size, high))
    ∙ sym (get_or_past octets (first + i) 0 (omega (arith, high))))
    (cases_lt i (length octets - first))

-- eight octets are those from a place on
pub eight_are : (xs octets : List ℕ) (place : ℕ) → ((i : ℕ) → i < 8 → get_or xs i 0 ≡ get_or octets (8 * place + i) 0) → big_number 8 xs ≡ word_at octets place
eight_are xs octets place same =
    let e0 = same 0 (omega arith) in let e1 = same 1 (omega arith) in let e2 = same 2 (omega arith) in let e3 = same 3 (omega arith) in
    let e4 = same 4 (omega arith) in let e5 = same 5 (omega arith) in let e6 = same 6 (omega arith) in let e7 = same 7 (omega arith) in
    omega (arith, e0, e1, e2, e3, e4, e5, e6, e7)
