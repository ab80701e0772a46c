-- The datagram of pieces in a row.
use Rattle.std.proofs.Common.{◌≡◌, ◌∙◌, ap, sym, ℕ, zero, suc, ◌+◌, ◌-◌, ◌<◌, ◌≤◌, ⊎_elim, true, false, List, [], ◌∷◌, ◌++◌, length, take, None, Some, refl, arith, length-append, drop, Option}
use Rattle.std.specs.List.{slice_get}
use Rattle.std.specs.Option.{option_or}
use Rattle.std.proofs.lemmas.Bool.{cases_lt, lt-ltb, le-ltb, cases_Bool}
use Rattle.link_rules.specs.Fragments.{Piece, datagram_from, end_of, octet_at, octets_below, octets_if, octets_with, total_of, octet_in}
use Rattle.es_base.proofs.Elements.{there}
use Rattle.datagram_delivery.specs.Splitting.{joined}
use Rattle.std.proofs.lemmas.Option.{same_Some, slice_get_within}

-- each piece begins where those before it end
abbrev pub AreInRow : List Piece → Type 0
AreInRow [] = Unit {0}
AreInRow (piece ∷ earlier) = (piece.offset ≡ length (joined earlier)) × AreInRow earlier

-- ---- elements of joined lists

get_left : {X : Type 0} (xs ys : List X) (i : ℕ) → i < length xs → slice_get (xs ++ ys) i ≡ slice_get xs i
get_left [] ys i within = absurd (omega arith)
get_left (x ∷ xs) ys zero within = refl
get_left (x ∷ xs) ys (suc i) within = get_left xs ys i (omega arith)

get_right : {X : Type 0} (xs ys : List X) (i : ℕ) → slice_get (xs ++ ys) (length xs + i) ≡ slice_get ys i
get_right [] ys i = let e : 0 + i ≡ i = omega arith in rw e refl
get_right (x ∷ xs) ys i = let e : suc (length xs) + i ≡ suc (length xs + i) = omega arith in rw e (get_right xs ys i)

pub take_one_more : {X : Type 0} (xs : List X) (n : ℕ) (x : X) → slice_get xs n ≡ Some x → take n xs ++ x ∷ [] ≡ take (suc n) xs
take_one_more [] n x is = cc
take_one_more (y ∷ ys) zero x is = cc
take_one_more (y ∷ ys) (suc n) x is = ap (λ zs. y ∷ zs) (take_one_more ys n x is)

pub take_all : {X : Type 0} (xs : List X) → take (length xs) xs ≡ xs
take_all [] = refl
take_all (x ∷ xs) = ap (λ ys. x ∷ ys) (take_all xs)

-- ---- the octets

octet_is : (pieces : List Piece) (i : ℕ) → AreInRow pieces → i < length (joined pieces) → octet_at pieces i ≡ slice_get (joined pieces) i
octet_is [] i row within = absurd (omega arith)
octet_is (piece ∷ earlier) i row within =
    let all : length (joined earlier ++ piece.octets) ≡ length (joined earlier) + length piece.octets = length-append (joined earlier) piece.octets in
    let begin : piece.offset ≡ length (joined earlier) = row.0 in
    ⊎_elim
    (λ (less : i < piece.offset).
    rw (lt-ltb i piece.offset less) (octet_is earlier i row.1 (omega arith) ∙ sym (get_left (joined earlier) piece.octets i (omega arith))))
    (λ (more : piece.offset ≤ i).
    let (octet, is) = there piece.octets (i - piece.offset) (omega arith) in
    let e : i ≡ length (joined earlier) + (i - piece.offset) = omega arith in
    let right : slice_get (joined earlier ++ piece.octets) i ≡ slice_get piece.octets (i - piece.offset) =
    ap (slice_get (joined earlier ++ piece.octets)) e ∙ get_right (joined earlier) piece.octets (i - piece.offset) in
    rw (le-ltb i piece.offset more) (ap (λ found. option_or found (octet_at earlier i)) is ∙ sym is ∙ sym right))
    (cases_lt i piece.offset)

octets_are : (pieces : List Piece) (n : ℕ) → AreInRow pieces → n ≤ length (joined pieces) → octets_below n pieces ≡ Some (take n (joined pieces))
unfolding octets_below
octets_are pieces zero row within = refl
octets_are pieces (suc n) row within =
    let (octet, is) = there (joined pieces) n (omega arith) in
    ap (λ front. octets_with front (octet_at pieces n)) (octets_are pieces n row (omega arith))
    ∙ ap (octets_with (Some (take n (joined pieces)))) (octet_is pieces n row (omega arith) ∙ is)
    ∙ ap Some (take_one_more (joined pieces) n octet is)

-- ---- the datagram

last_total : (piece : Piece) (earlier : List Piece) → piece.more ≡ false → total_of (piece ∷ earlier) ≡ Some (end_of piece)
last_total piece earlier more = rw more refl

-- pieces in a row make the datagram of all their octets, if no more follow the latest
pub row_is_joined : (piece : Piece) (earlier : List Piece) → AreInRow (piece ∷ earlier) → piece.more ≡ false → datagram_from (piece ∷ earlier) ≡ Some (joined earlier ++ piece.octets)
row_is_joined piece earlier row more =
    let all : length (joined earlier ++ piece.octets) ≡ length (joined earlier) + length piece.octets = length-append (joined earlier) piece.octets in
    let begin : piece.offset ≡ length (joined earlier) = row.0 in
    let end : end_of piece ≡ length (joined (piece ∷ earlier)) = omega arith in
    ap (λ total. octets_if total (piece ∷ earlier)) (last_total piece earlier more) ∙ ap (λ (n : ℕ). octets_below n (piece ∷ earlier)) end ∙ octets_are (piece ∷ earlier) (length (joined (piece ∷ earlier))) row (omega arith) ∙ ap Some (take_all (joined (piece ∷ earlier)))

-- pieces that more follow make no datagram
abbrev pub AreFollowed : List Piece → Type 0
AreFollowed [] = Unit {0}
AreFollowed (piece ∷ earlier) = (piece.more ≡ true) × AreFollowed earlier

no_total : (pieces : List Piece) → AreFollowed pieces → total_of pieces ≡ None
no_total [] followed = refl
no_total (piece ∷ earlier) followed = rw followed.0 (no_total earlier followed.1)

pub row_is_held : (pieces : List Piece) → AreFollowed pieces → datagram_from pieces ≡ None
row_is_held pieces followed = ap (λ total. octets_if total pieces) (no_total pieces followed)

-- ---- pieces of one datagram make that datagram or none

-- a piece is a part of a datagram
pub record IsSlice (datagram : List ℕ) (piece : Piece) : Type 0 where
  pub within : piece.offset + length piece.octets ≤ length datagram
  pub octets : piece.octets ≡ take (length piece.octets) (drop piece.offset datagram)
  pub ends : piece.more ≡ false → piece.offset + length piece.octets ≡ length datagram

abbrev pub AreSlices : List ℕ → List Piece → Type 0
AreSlices datagram [] = Unit {0}
AreSlices datagram (piece ∷ earlier) = IsSlice datagram piece × AreSlices datagram earlier

-- ---- octets

get_take : {X : Type 0} (xs : List X) (n i : ℕ) → i < n → slice_get (take n xs) i ≡ slice_get xs i
get_take [] zero i less = absurd (omega arith)
get_take [] (suc n) i less = refl
get_take (x ∷ xs) zero i less = absurd (omega arith)
get_take (x ∷ xs) (suc n) zero less = refl
get_take (x ∷ xs) (suc n) (suc i) less = get_take xs n i (omega arith)

get_drop : {X : Type 0} (xs : List X) (n i : ℕ) → slice_get (drop n xs) i ≡ slice_get xs (n + i)
get_drop xs zero i = let e : 0 + i ≡ i = omega arith in rw e refl
get_drop [] (suc n) i = refl
get_drop (x ∷ xs) (suc n) i = let e : suc n + i ≡ suc (n + i) = omega arith in rw e (get_drop xs n i)

slice_octet : (datagram : List ℕ) (piece : Piece) (i octet : ℕ) → IsSlice datagram piece → octet_in piece i ≡ Some octet → slice_get datagram i ≡ Some octet
slice_octet datagram piece i octet slice is =
    ⊎_elim
    (λ (less : i < piece.offset). let none : None ≡ Some octet = rw (lt-ltb i piece.offset less) at is in cc)
    (λ (more : piece.offset ≤ i).
    let got : slice_get piece.octets (i - piece.offset) ≡ Some octet = rw (le-ltb i piece.offset more) at is in
    let within : i - piece.offset < length piece.octets = slice_get_within piece.octets (i - piece.offset) octet got in
    let e : piece.offset + (i - piece.offset) ≡ i = omega arith in
    ap (slice_get datagram) (sym e) ∙ sym (get_drop datagram piece.offset (i - piece.offset))
    ∙ sym (get_take (drop piece.offset datagram) (length piece.octets) (i - piece.offset) within)
    ∙ ap (λ (octets : List ℕ). slice_get octets (i - piece.offset)) (sym slice.octets) ∙ got)
    (cases_lt i piece.offset)

found_octet : (datagram : List ℕ) (pieces : List Piece) (i octet : ℕ) → AreSlices datagram pieces → octet_at pieces i ≡ Some octet → slice_get datagram i ≡ Some octet
found_octet datagram [] i octet slices is = cc
found_octet datagram (piece ∷ earlier) i octet slices is = go (octet_in piece i) refl (λ later. found_octet datagram earlier i octet slices.1 later) is
  where
    go : (found : Option ℕ) → octet_in piece i ≡ found → (octet_at earlier i ≡ Some octet → slice_get datagram i ≡ Some octet) → option_or found (octet_at earlier i) ≡ Some octet
        → slice_get datagram i ≡ Some octet
    go None e rest later = rest later
    go (Some x) e rest same = slice_octet datagram piece i octet slices.0 (e ∙ same)

-- ---- the datagram

total_is : (datagram : List ℕ) (pieces : List Piece) (total : ℕ) → AreSlices datagram pieces → total_of pieces ≡ Some total → total ≡ length datagram
total_is datagram [] total slices is = cc
total_is datagram (piece ∷ earlier) total slices is =
    ⊎_elim
    (λ (more : piece.more ≡ true). total_is datagram earlier total slices.1 (sym (total_more piece earlier more) ∙ is))
    (λ (last : piece.more ≡ false). sym (same_Some (end_of piece) total (sym (total_last piece earlier last) ∙ is)) ∙ slices.0.ends last)
    (cases_Bool piece.more)
  where
    total_more : (piece : Piece) (earlier : List Piece) → piece.more ≡ true → total_of (piece ∷ earlier) ≡ total_of earlier
    total_more piece earlier more = rw more refl

    total_last : (piece : Piece) (earlier : List Piece) → piece.more ≡ false → total_of (piece ∷ earlier) ≡ Some (end_of piece)
    total_last piece earlier last = rw last refl

parts : (front : Option (List ℕ)) (last : Option ℕ) (octets : List ℕ) → octets_with front last ≡ Some octets
    → (f : List ℕ) × (x : ℕ) × (front ≡ Some f) × (last ≡ Some x) × (f ++ x ∷ [] ≡ octets)
parts None last octets e = cc
parts (Some f) None octets e = cc
parts (Some f) (Some x) octets e = (f, x, refl, refl, same_Some _ _ e)

below_is : (datagram : List ℕ) (pieces : List Piece) (n : ℕ) (octets : List ℕ) → AreSlices datagram pieces → octets_below n pieces ≡ Some octets → octets ≡ take n datagram
unfolding octets_below
below_is datagram pieces zero octets slices is = sym (same_Some [] octets is)
below_is datagram pieces (suc n) octets slices is =
    let (front, octet, front_is, octet_is, all) = parts (octets_below n pieces) (octet_at pieces n) octets is in
    sym all ∙ ap (λ (f : List ℕ). f ++ octet ∷ []) (below_is datagram pieces n front slices front_is)
    ∙ take_one_more datagram n octet (found_octet datagram pieces n octet slices octet_is)

-- pieces of a datagram make no other
pub made_is : (datagram : List ℕ) (pieces : List Piece) (octets : List ℕ) → AreSlices datagram pieces → datagram_from pieces ≡ Some octets → octets ≡ datagram
made_is datagram pieces octets slices is = go (total_of pieces) refl is
  where
    go : (total : Option ℕ) → total_of pieces ≡ total → octets_if total pieces ≡ Some octets → octets ≡ datagram
    go None e made = cc
    go (Some total) e made =
        below_is datagram pieces total octets slices made ∙ ap (λ (n : ℕ). take n datagram) (total_is datagram pieces total slices e) ∙ take_all datagram
