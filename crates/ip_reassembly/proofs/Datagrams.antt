-- The octets below a place, and the datagram that some pieces make.
use Rattle.std.proofs.Common.{◌≡◌, ◌∙◌, ap, sym, ℕ, zero, suc, ◌-◌, ◌<◌, ◌≤◌, ⊎_elim, List, [], ◌∷◌, ◌++◌, length, Option, None, Some, IsSome, refl, arith, slice_index}
use Rattle.std.specs.Option.{option_map}
use Rattle.std.proofs.lemmas.Bool.{cases_lt, lt-ltb, le-ltb}
use Rattle.std.proofs.lemmas.Option.{same_Some, slice_get_past, slice_get-get_or}
use Rattle.std.proofs.lemmas.Grind.{common_steps, same_number_lists}
use Rattle.link_rules.specs.Fragments.{Piece, end_of, octet_in, octet_at, octets_with, octets_below, octets_if, total_of, datagram_from}

-- ---- the octets of one piece

pub octet_before : (p : Piece) (i : ℕ) → i < p.offset → octet_in p i ≡ None
octet_before p i less = rw (lt-ltb i p.offset less) refl

pub octet_inside : (p : Piece) (i : ℕ) → p.offset ≤ i → i < end_of p → octet_in p i ≡ Some (slice_index p.octets (i - p.offset))
octet_inside p i above less = rw (le-ltb i p.offset above) (slice_get-get_or p.octets (i - p.offset) 0 (omega arith))

pub octet_past : (p : Piece) (i : ℕ) → end_of p ≤ i → octet_in p i ≡ None
octet_past p i above = rw (le-ltb i p.offset (omega arith)) (slice_get_past p.octets (i - p.offset) (omega arith))

-- ---- what is found

parts : (front : Option (List ℕ)) (last : Option ℕ) (d : List ℕ) → octets_with front last ≡ Some d
    → (f : List ℕ) × (x : ℕ) × (front ≡ Some f) × (last ≡ Some x) × (f ++ x ∷ [] ≡ d)
parts None last d e = cc
parts (Some f) None d e = cc
parts (Some f) (Some x) d e = (f, x, refl, refl, same_Some _ _ e)

pub below_length : (n : ℕ) (pieces : List Piece) (d : List ℕ) → octets_below n pieces ≡ Some d → length d ≡ n
unfolding octets_below
below_length zero pieces d e = let same : [] ≡ d = same_Some _ _ e in rw (← same) refl
below_length (suc n) pieces d e =
    let (f, x, front, last, same) = parts (octets_below n pieces) (octet_at pieces n) d e in
    let before = below_length n pieces f front in
    rw (← same) (grind (arith, common_steps))

pub below_each : (n : ℕ) (pieces : List Piece) (d : List ℕ) → octets_below n pieces ≡ Some d → (i : ℕ) → i < n → octet_at pieces i ≡ Some (slice_index d i)
unfolding octets_below
below_each zero pieces d e i less = absurd (omega arith)
below_each (suc n) pieces d e i less =
    let (f, x, front, last, same) = parts (octets_below n pieces) (octet_at pieces n) d e in
    let long = below_length n pieces f front in
    ⊎_elim
    (λ (below : i < n).
    let there = below_each n pieces f front i below in
    let kept : slice_index (f ++ x ∷ []) i ≡ slice_index f i = grind (arith, common_steps) in
    rw (← same, kept) there)
    (λ (above : n ≤ i).
    let at : i ≡ n = omega arith in
    let put : slice_index (f ++ x ∷ []) n ≡ x = grind (arith, common_steps) in
    rw (at, ← same, put) last)
    (cases_lt i n)

-- ---- whether it is found

one_more : (n : ℕ) (front : Option (List ℕ)) (last : Option ℕ) → option_map length front ≡ Some n → IsSome last → option_map length (octets_with front last) ≡ Some (suc n)
one_more n None last e there = cc
one_more n (Some f) None e there = cc
one_more n (Some f) (Some x) e there =
    let long : length f ≡ n = same_Some _ _ e in
    let more : length (f ++ x ∷ []) ≡ suc n = grind (arith, common_steps) in
    rw more refl

-- each place has an octet
pub all_there : (n : ℕ) (pieces : List Piece) → ((i : ℕ) → i < n → IsSome (octet_at pieces i)) → option_map length (octets_below n pieces) ≡ Some n
unfolding octets_below
all_there zero pieces each = refl
all_there (suc n) pieces each =
    one_more n (octets_below n pieces) (octet_at pieces n) (all_there n pieces (λ i less. each i (omega arith))) (each n (omega arith))

none_after : (front : Option (List ℕ)) → octets_with front None ≡ None
none_after None = refl
none_after (Some f) = refl

-- a place has none
pub one_missing : (n : ℕ) (pieces : List Piece) (i : ℕ) → i < n → octet_at pieces i ≡ None → octets_below n pieces ≡ None
unfolding octets_below
one_missing zero pieces i less none = absurd (omega arith)
one_missing (suc n) pieces i less none =
    ⊎_elim
    (λ (below : i < n). rw (one_missing n pieces i below none) refl)
    (λ (above : n ≤ i).
    let at : n ≡ i = omega arith in
    rw (at, none) (none_after (octets_below i pieces)))
    (cases_lt i n)

-- ---- the datagram

total_if : (total : Option ℕ) (pieces : List Piece) (d : List ℕ) → octets_if total pieces ≡ Some d → total ≡ Some (length d)
total_if None pieces d made = cc
total_if (Some n) pieces d made = ap (λ (m : ℕ). Some m) (sym (below_length n pieces d made))

pub datagram_ends : (pieces : List Piece) (d : List ℕ) → datagram_from pieces ≡ Some d → total_of pieces ≡ Some (length d)
datagram_ends pieces d made = total_if (total_of pieces) pieces d made

pub datagram_each : (pieces : List Piece) (d : List ℕ) → datagram_from pieces ≡ Some d → (i : ℕ) → i < length d → octet_at pieces i ≡ Some (slice_index d i)
datagram_each pieces d made i less =
    let below : octets_below (length d) pieces ≡ Some d = rw (datagram_ends pieces d made) at made in
    below_each (length d) pieces d below i less

-- the octets are found, where each is at its place
pub datagram_made : (pieces : List Piece) (d : List ℕ) → total_of pieces ≡ Some (length d) → ((i : ℕ) → i < length d → octet_at pieces i ≡ Some (slice_index d i)) → datagram_from pieces ≡ Some d
datagram_made pieces d ends each =
    let there : option_map length (octets_below (length d) pieces) ≡ Some (length d) = all_there (length d) pieces (λ i less. rw (each i less) refl) in
    rw ends (same_as d (octets_below (length d) pieces) there (below_each (length d) pieces) each)
  where
    same_as : (d : List ℕ) (made : Option (List ℕ)) → option_map length made ≡ Some (length d)
        → ((e : List ℕ) → made ≡ Some e → (i : ℕ) → i < length d → octet_at pieces i ≡ Some (slice_index e i))
        → ((i : ℕ) → i < length d → octet_at pieces i ≡ Some (slice_index d i)) → made ≡ Some d
    same_as d None there found each = cc
    same_as d (Some e) there found each =
        let long : length e ≡ length d = same_Some _ _ there in
        ap (λ (xs : List ℕ). Some xs) (same_number_lists e d long (λ k less. same_Some _ _ (sym (found e refl k (omega arith)) ∙ each k (omega arith))))
