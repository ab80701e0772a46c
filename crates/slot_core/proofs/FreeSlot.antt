-- Among more slots than are taken there is a free one.
use Rattle.std.proofs.Common.{◌≡◌, ◌≢◌, ℕ, zero, suc, ◌+◌, ◌<◌, ◌≤◌, Bool, true, false, ◌||◌, List, [], ◌∷◌, length, get_or, map, Option, None, Some, refl, sym, arith, subst, inl, inr, ◌⊎◌, ⊎_elim, eqb}
use Rattle.std.specs.List.{list_any}
use Rattle.std.proofs.lemmas.Bool.{cases_Bool, cases_eq, eq-eqb}
use Rattle.std.proofs.lemmas.List.{length-map}
use Rattle.std.proofs.lemmas.Map.Steps.{le-length_from_below}
use Rattle.slot_core.specs.Words.{slot_of}
use Rattle.slot_core.specs.State.{State}
use Rattle.slot_core.specs.Laws.{HasFreeSlot}

neither : (x y : Bool) → (x || y) ≡ false → (x ≡ false) × (y ≡ false)
neither true y e = absurd (cc)
neither false y e = (refl, e)

-- the slot that was found, or one that isn't there
slot_or : ℕ → Option ℕ → ℕ
slot_or none None = none
slot_or none (Some slot) = slot

unfound : (none slot : ℕ) (scanned : List (Option ℕ)) → list_any (eqb slot) (map (slot_or none) scanned) ≡ false → (reader : ℕ) → get_or scanned reader None ≢ Some slot
unfolding slot_or
unfound none slot [] e reader = λ (found : None ≡ Some slot). cc
unfound none slot (x ∷ scanned) e zero = λ (found : x ≡ Some slot).
    let P : Option ℕ → Type 0 = λ o. eqb slot (slot_or none o) ≡ false in
    let differ : eqb slot slot ≡ false = subst P found (neither _ _ e).0 in
    let same : eqb slot slot ≡ true = eq-eqb slot slot refl in cc
unfound none slot (x ∷ scanned) e (suc reader) = unfound none slot scanned (neither _ _ e).1 reader

-- among more numbers than these there is another
another_below : (taken : List ℕ) (n : ℕ) → ((q : ℕ) × ((q < n) × (list_any (eqb q) taken ≡ false))) ⊎ ((q : ℕ) → q < n → list_any (eqb q) taken ≡ true)
another_below taken zero = inr (λ q h. absurd (omega (arith, h)))
another_below taken (suc n) =
    ⊎_elim
    (λ (found : (q : ℕ) × ((q < n) × (list_any (eqb q) taken ≡ false))). inl (found.0, (omega (arith, found.1.0), found.1.1)))
    (λ (below : (q : ℕ) → q < n → list_any (eqb q) taken ≡ true).
    ⊎_elim
    (λ (here : list_any (eqb n) taken ≡ true). inr (λ q h.
    ⊎_elim
    (λ (e : q ≡ n). let P : ℕ → Type 0 = λ p. list_any (eqb p) taken ≡ true in subst P (sym e) here)
    (λ (differ : q ≡ n → ⊥). below q (omega (arith, h, differ)))
    (cases_eq q n)))
    (λ (none : list_any (eqb n) taken ≡ false). inl (n, (omega arith, none)))
    (cases_Bool (list_any (eqb n) taken)))
    (another_below taken n)

another : (taken : List ℕ) (n : ℕ) → length taken < n → (q : ℕ) × ((q < n) × (list_any (eqb q) taken ≡ false))
another taken n few =
    ⊎_elim
    (λ (found : (q : ℕ) × ((q < n) × (list_any (eqb q) taken ≡ false))). found)
    (λ (all : (q : ℕ) → q < n → list_any (eqb q) taken ≡ true). absurd (omega (arith, le-length_from_below taken n all, few)))
    (another_below taken n)

pub free_slot_exists : (readers slots : ℕ) (c : State) → readers + 2 ≤ slots → length c.writer.scanned ≡ readers → length c.writer.stored ≡ 0 → HasFreeSlot readers slots c
free_slot_exists readers slots c many all idle =
    let w = c.writer in
    let taken : List ℕ = slot_of w.last ∷ map (slot_or slots) w.scanned in
    let n : length (map (slot_or slots) w.scanned) ≡ length w.scanned = length-map w.scanned (slot_or slots) in
    let found = another taken slots (omega (arith, n, all, many)) in
    let parts = neither (eqb found.0 (slot_of w.last)) (list_any (eqb found.0) (map (slot_or slots) w.scanned)) found.1.1 in (
      found.0,
      λ word short. record {
        exists = found.1.0;
        within = omega arith;
        all = all;
        next = sym idle;
        first = λ _. record {
          short = short;
          apart = λ _ e. let same = eq-eqb found.0 (slot_of w.last) e in cc;
          free = unfound slots found.0 w.scanned parts.1;
        };
        later = λ h. absurd (omega (arith, h));
      },
    )
