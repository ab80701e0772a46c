-- A list that is written back whole, and one whose element moved to the end of those that stand.
use Rattle.std.proofs.Common.{◌≡◌, ◌∙◌, sym, ℕ, ◌+◌, ◌-◌, ◌<◌, ◌≤◌, ⊎_elim, List, [], ◌∷◌, ◌++◌, length, take, drop, remove, slice_get, slice_set, zero, slice_index, slice_index_or, min, replicate, Some, suc, append_assoc, refl, arith}
use Rattle.std.specs.List.{refill}
use Rattle.std.proofs.lemmas.List.{length-append, get_or_past, get_or-append_right, length-take-le, length-drop, get_or-take, get_or-drop, get_or-append-add, take-take, drop-take}
use Rattle.std.proofs.Math.Seq.{drop-cons}
use Rattle.std.proofs.lemmas.Option.{slice_get_read, slice_get_cases}
use Rattle.std.proofs.lemmas.Bool.{cases_lt}
use Rattle.std.proofs.lemmas.Grind.{common_steps, same_number_lists}
use Rattle.es_base.specs.Udp.{head_of, udp_header_octets}
use borrow.Rule.Slice.PartMut.{put_mid}

pub refill_whole : {X : Type 0} (n : ℕ) (xs ys : List X) → length ys ≡ n → refill n xs ys ≡ ys
refill_whole n xs ys long = rw (← long) (grind (arith, common_steps))

-- an element of those that stand
pub standing_at : {X : Type 0} (xs : List X) (n i : ℕ) (x : X) → i < length (take n xs) → x ≡ slice_index_or xs i x → slice_get (take n xs) i ≡ Some x
standing_at xs n i x less is =
    let kept : slice_index_or (take n xs) i x ≡ slice_index_or xs i x = grind (arith, common_steps) in
    slice_get_read (take n xs) (length (take n xs)) i x refl less (is ∙ sym kept)

-- ---- the element at a place, moved to the end of those that stand

-- those from the place on
from_place : {X : Type 0} (xs : List X) (place standing : ℕ) → place < standing → standing ≤ length xs
    → (x : X) × (take (standing - place) (drop place xs) ≡ x ∷ drop (suc place) (take standing xs)) × (slice_get (take standing xs) place ≡ Some x)
from_place xs place standing less within =
    let long : length (take standing xs) ≡ standing = length-take-le standing xs within in
    let sum : place + (standing - place) ≡ standing = omega arith in
    let cut : take (standing - place) (drop place xs) ≡ drop place (take standing xs) = sym (rw sum at (drop-take place (standing - place) xs)) in
    ⊎_elim
    (λ there.
    let (x, inside, at, same) = there in
    let first : drop place (take standing xs) ≡ x ∷ drop (suc place) (take standing xs) = rw same at (drop-cons (take standing xs) place x inside) in
    (x, cut ∙ first, at))
    (λ past. absurd (omega (arith, past.0)))
    (slice_get_cases (take standing xs) place).1

front_of : {X : Type 0} (front back rest : List X) (n : ℕ) → length front + length back ≡ n → take n (front ++ (back ++ rest)) ≡ front ++ back
front_of front back rest n long = rw (← long) (grind (arith, common_steps))

at_end_of : {X : Type 0} (front back rest : List X) (x : X) (n : ℕ) → length front + length back ≡ n → slice_get (front ++ (back ++ x ∷ rest)) n ≡ Some x
at_end_of front back rest x n long =
    let within : n < length (front ++ (back ++ x ∷ rest)) = grind (arith, common_steps) in
    let read : slice_index_or (front ++ (back ++ x ∷ rest)) (length front + length back) x ≡ slice_index_or (back ++ x ∷ rest) (length back) x = get_or-append-add front (back ++ x ∷ rest) (length back) x in
    let last : slice_index_or (back ++ x ∷ rest) (length back) x ≡ x = grind (arith, common_steps) in
    slice_get_read (front ++ (back ++ x ∷ rest)) _ n x refl within (sym (rw long at read ∙ last))

sizes : {X : Type 0} (xs : List X) (place standing : ℕ) → place < standing → standing ≤ length xs → length (take place xs) + length (drop (suc place) (take standing xs)) ≡ standing - 1
sizes xs place standing less within = omega (arith, length-take-le place xs (omega arith), length-take-le standing xs within, length-drop (suc place) (take standing xs))

pub others_moved : {X : Type 0} (xs : List X) (place standing : ℕ) (moved : List X) → place < standing → standing ≤ length xs
    → moved ≡ drop 1 (take (standing - place) (drop place xs)) ++ take 1 (take (standing - place) (drop place xs))
    → take (standing - 1) (put_mid place (standing - place) xs moved) ≡ remove (take standing xs) place
others_moved xs place standing moved less within is =
    let (x, cut, at) = from_place xs place standing less within in
    let before : take place (take standing xs) ≡ take place xs = take-take place standing xs (omega arith) in
    rw (is, cut, append_assoc, before) (front_of (take place xs) (drop (suc place) (take standing xs)) _ (standing - 1) (sizes xs place standing less within))

pub last_moved : {X : Type 0} (xs : List X) (place standing : ℕ) (moved : List X) → place < standing → standing ≤ length xs
    → moved ≡ drop 1 (take (standing - place) (drop place xs)) ++ take 1 (take (standing - place) (drop place xs))
    → slice_get (put_mid place (standing - place) xs moved) (standing - 1) ≡ slice_get (take standing xs) place
last_moved xs place standing moved less within is =
    let (x, cut, at) = from_place xs place standing less within in
    rw (is, cut, append_assoc) (at_end_of (take place xs) (drop (suc place) (take standing xs)) _ x (standing - 1) (sizes xs place standing less within) ∙ sym at)

-- ---- an element that is replaced, and taken out

pub remove_set : {X : Type 0} (xs : List X) (i : ℕ) (x : X) → remove (slice_set xs i x) i ≡ remove xs i
remove_set [] i x = refl
remove_set (y ∷ ys) zero x = refl
remove_set (y ∷ ys) (suc i) x = rw (remove_set ys i x) refl

pub get_set : {X : Type 0} (xs : List X) (i : ℕ) (x y : X) → slice_get xs i ≡ Some y → slice_get (slice_set xs i x) i ≡ Some x
get_set [] i x y there = cc
get_set (z ∷ zs) zero x y there = refl
get_set (z ∷ zs) (suc i) x y there = get_set zs i x y there

-- ---- the first octets

module _ (zeros : List ℕ) (eight : length zeros ≡ udp_header_octets) (none : (k : ℕ) → slice_index zeros k ≡ 0) where
  filled : (octets : List ℕ) (k : ℕ) → slice_index (octets ++ zeros) k ≡ slice_index octets k
  filled octets k =
      ⊎_elim
      (λ (inside : k < length octets). grind (arith, common_steps))
      (λ (past : length octets ≤ k).
      let zero_there : slice_index octets k ≡ 0 = get_or_past octets k 0 past in
      get_or-append_right octets zeros (length octets) k 0 refl past ∙ none (k - length octets) ∙ sym zero_there)
      (cases_lt k (length octets))

  is_head_of : (head octets : List ℕ) → length head ≡ udp_header_octets → ((i : ℕ) → i < udp_header_octets → slice_index head i ≡ slice_index octets i) → head ≡ take udp_header_octets (octets ++ zeros)
  is_head_of head octets long each =
      let whole : length (octets ++ zeros) ≡ length octets + length zeros = length-append octets zeros in
      let same : length head ≡ length (take udp_header_octets (octets ++ zeros)) = long ∙ sym (length-take-le udp_header_octets (octets ++ zeros) (omega arith)) in
      same_number_lists head (take udp_header_octets (octets ++ zeros)) same (λ k less.
      let below : k < udp_header_octets = omega arith in
      each k below ∙ sym (get_or-take udp_header_octets (octets ++ zeros) k 0 below ∙ filled octets k))

  copied : (octets : List ℕ) (n : ℕ) → n ≡ min (length octets) udp_header_octets → take n octets ++ drop n zeros ≡ take udp_header_octets (octets ++ zeros)
  copied octets n least =
      let front : length (take n octets) ≡ n = length-take-le n octets (omega arith) in
      let back : length (drop n zeros) ≡ length zeros - n = length-drop n zeros in
      let long : length (take n octets ++ drop n zeros) ≡ udp_header_octets = length-append (take n octets) (drop n zeros) ∙ omega arith in
      is_head_of (take n octets ++ drop n zeros) octets long (λ i less.
      ⊎_elim
      (λ (inside : i < n). grind (arith, common_steps))
      (λ (past : n ≤ i).
      let zero_there : slice_index octets i ≡ 0 = get_or_past octets i 0 (omega arith) in
      get_or-append_right (take n octets) (drop n zeros) n i 0 front past ∙ get_or-drop n zeros (i - n) 0 ∙ none (n + (i - n)) ∙ sym zero_there)
      (cases_lt i n))

zeros_only : (n k : ℕ) → slice_index (replicate n 0) k ≡ 0
zeros_only n k = grind (arith, common_steps)

pub is_head : (head octets : List ℕ) → length head ≡ udp_header_octets → ((i : ℕ) → i < udp_header_octets → slice_index head i ≡ slice_index octets i) → head ≡ head_of octets
is_head head octets long each = is_head_of (replicate udp_header_octets 0) refl (zeros_only udp_header_octets) head octets long each

pub copied_head : (octets : List ℕ) (n : ℕ) → n ≡ min (length octets) udp_header_octets → take n octets ++ drop n (replicate udp_header_octets 0) ≡ head_of octets
copied_head octets n least = copied (replicate udp_header_octets 0) refl (zeros_only udp_header_octets) octets n least
