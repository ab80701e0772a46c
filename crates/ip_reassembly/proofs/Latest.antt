-- What is found of some pieces is that of the latest piece which has it.
use Rattle.std.proofs.Common.{◌≡◌, ◌∙◌, ap, sym, ℕ, ◌<◌, ◌≤◌, ⊎_elim, Bool, true, false, not, List, [], ◌∷◌, Some, refl, arith}
use Rattle.std.specs.List.{find}
use Rattle.std.proofs.lemmas.Bool.{cases_Bool, cases_lt, lt-ltb, le-ltb, le-leb, lt-leb}
use Rattle.std.proofs.lemmas.Option.{same_Some}
use Rattle.link_rules.specs.Fragments.{Piece, end_of, octet_at, total_of, is_last, has_octet, IsOctetAt, IsTotalOf}
use Rattle.ip_reassembly.proofs.Datagrams.{octet_before, octet_inside, octet_past}

-- ---- a place of one piece

has_before : (p : Piece) (i : ℕ) → i < p.offset → has_octet i p ≡ false
has_before p i less = rw (lt-leb p.offset i less) refl

has_inside : (p : Piece) (i : ℕ) → p.offset ≤ i → i < end_of p → has_octet i p ≡ true
has_inside p i above less = rw (le-leb p.offset i above, lt-ltb i (end_of p) less) refl

has_past : (p : Piece) (i : ℕ) → end_of p ≤ i → has_octet i p ≡ false
has_past p i past = rw (le-leb p.offset i (omega arith), le-ltb i (end_of p) past) refl

-- ---- a place of all pieces

pub octet_found : (pieces : List Piece) (i x : ℕ) → octet_at pieces i ≡ Some x → IsOctetAt pieces i x
octet_found [] i x at = cc
octet_found (p ∷ pieces) i x at =
    ⊎_elim
    (λ (before : i < p.offset). rw (has_before p i before) (octet_found pieces i x (rw (octet_before p i before) at at)))
    (λ (above : p.offset ≤ i).
    ⊎_elim
    (λ (inside : i < end_of p). (p, rw (has_inside p i above inside) refl, same_Some _ _ (rw (octet_inside p i above inside) at at)))
    (λ (past : end_of p ≤ i). rw (has_past p i past) (octet_found pieces i x (rw (octet_past p i past) at at)))
    (cases_lt i (end_of p)))
    (cases_lt i p.offset)

pub found_octet : (pieces : List Piece) (i x : ℕ) → IsOctetAt pieces i x → octet_at pieces i ≡ Some x
found_octet [] i x (q, found, is) = cc
found_octet (p ∷ pieces) i x (q, found, is) =
    ⊎_elim
    (λ (before : i < p.offset). rw (octet_before p i before) (found_octet pieces i x (q, rw (has_before p i before) at found, is)))
    (λ (above : p.offset ≤ i).
    ⊎_elim
    (λ (inside : i < end_of p).
    let same : p ≡ q = same_Some p q (rw (has_inside p i above inside) at found) in
    rw (octet_inside p i above inside, same, is) refl)
    (λ (past : end_of p ≤ i). rw (octet_past p i past) (found_octet pieces i x (q, rw (has_past p i past) at found, is)))
    (cases_lt i (end_of p)))
    (cases_lt i p.offset)

-- ---- the end

found_first : (test : Piece → Bool) (p : Piece) (pieces : List Piece) → test p ≡ true → find test (p ∷ pieces) ≡ Some p
found_first test p pieces passes = rw passes refl

pub total_found : (pieces : List Piece) (n : ℕ) → total_of pieces ≡ Some n → IsTotalOf pieces n
total_found [] n is = cc
total_found (p ∷ pieces) n is =
    ⊎_elim
    (λ (more : p.more ≡ true). rw more (total_found pieces n (rw more at is)))
    (λ (last : p.more ≡ false). (p, rw last refl, same_Some _ _ (rw last at is)))
    (cases_Bool p.more)

pub found_total : (pieces : List Piece) (n : ℕ) → IsTotalOf pieces n → total_of pieces ≡ Some n
found_total [] n (q, found, is) = cc
found_total (p ∷ pieces) n (q, found, is) =
    ⊎_elim
    (λ (more : p.more ≡ true). rw more (found_total pieces n (q, rw more at found, is)))
    (λ (last : p.more ≡ false).
    let same : p ≡ q = same_Some p q (sym (found_first is_last p pieces (ap not last)) ∙ found) in
    rw (last, same, is) refl)
    (cases_Bool p.more)
