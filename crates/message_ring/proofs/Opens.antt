-- The opening of a queue, and how seats are parted and joined.
use Rattle.std.proofs.Common.{◌≡◌, ◌≢◌, ◌≤◌, ◌+◌, ℕ, zero, suc, ◌<◌, ◌⊎◌, inl, inr, ⊎_elim, List, [], ◌∷◌, ◌++◌, length, map, set, sym, refl, ap, ◌∙◌, subst, arith, length-set}
use Rattle.std.proofs.lemmas.List.{length-map}
use Rattle.std.proofs.Math.Nat.{mod-lt}
use mathlib.Core.Option.{some, some-injective, some-ne-none}
use lib.ListN.{get_elem?}
use Rattle.std.specs.Prelude.{All}
use Rattle.atomic_table.specs.Table.{opening, Splits, Joins}
use Rattle.atomic_table.proofs.Lists.{at_set, set_else}
use Rattle.es_base.specs.Limits.{deepest_queue}
use Rattle.message_ring.specs.declared.slot.Slot.{Slot}
use Rattle.message_ring.specs.declared.rule.QueueView.{QueueView}
use Rattle.message_ring.specs.declared.rule.SeatView.{SeatView}
use Rattle.message_ring.specs.declared.rule.SeatView.TheVariants.{Puts, Takes, Meets, Spent}
use Rattle.message_ring.specs.Rule.{IsRoomy, KnowsItsQueue, KeptQueue, slot_of_number, view_at_first}
use Rattle.message_ring.specs.Plays.{views_met, taker_parted, putter_left}
use Rattle.message_ring.specs.Ends.{AreRoomy}
use Rattle.message_ring.proofs.Lists.{begins_same}
use Rattle.message_ring.proofs.Turns.{T}

first_only : (v u : SeatView) (j : ℕ) → get_elem? (v ∷ []) j ≡ some u → (j ≡ 0) × (v ≡ u)
first_only v u zero e = (refl, some-injective v u e)
first_only v u (suc j) e = absurd (some-ne-none u (sym e))

roomy_at : (max : ℕ) (slots : List Slot) → All (IsRoomy max) slots → (n : ℕ) → n < length slots → (slot : Slot) × (get_elem? (map some slots) n ≡ some (some slot)) × IsRoomy max slot
roomy_at max [] all n less = absurd (omega (arith, less))
roomy_at max (x ∷ xs) all zero less = (x, refl, all 0 x (omega arith))
roomy_at max (x ∷ xs) all (suc n) less = roomy_at max xs (λ k d low. all (suc k) d (omega (arith, low))) n (omega (arith, less))

pub opens_at : (depth max : ℕ) (slots : List Slot) → 0 < depth → depth ≤ deepest_queue → AreRoomy depth max slots
    → KeptQueue (opening (0 ∷ 0 ∷ 0 ∷ []) slots (Meets (view_at_first depth max) (view_at_first depth max)))
opens_at depth max slots some_slot most are = let first = view_at_first depth max in record {
  putter = first;
  taker = first;
  putter_seat = 0;
  taker_seat = 0;
  lawful = record {
    words_are = refl;
    some_slot = some_slot;
    most = most;
    begins = some_slot;
    count = length-map slots some ∙ are.0;
    size = (refl, refl);
    few = omega arith;
    put = begins_same [];
    taken = begins_same [];
    known = begins_same [];
    start = λ _ _. refl;
    putting = λ h. absurd (cc);
    taking = λ h. absurd (cc);
    places = λ number from to not_put not_taken.
        let less : slot_of_number first number < depth = mod-lt (0 + number) some_slot in
        let count = are.0 in
        let place = roomy_at max slots are.1 (slot_of_number first number) (omega (arith, less, count)) in
        record { slot = place.0; home = place.1; room = place.2; message = λ message at. absurd (cc) };
  };
  seats = λ j u e. let t = first_only (Meets first first) u j e in
      subst (λ (z : SeatView). KnowsItsQueue first first 0 0 j z) t.1 ((refl, t.0), (refl, t.0));
}

at_end : (l : List SeatView) (a b : SeatView) (j : ℕ) → get_elem? (l ++ a ∷ []) j ≡ some b → (get_elem? l j ≡ some b) ⊎ ((j ≡ length l) × (a ≡ b))
at_end [] a b zero e = inr (refl, some-injective a b e)
at_end [] a b (suc j) e = absurd (some-ne-none b (sym e))
at_end (x ∷ xs) a b zero e = inl e
at_end (x ∷ xs) a b (suc j) e = ⊎_elim (λ t. inl t) (λ t. inr (ap suc t.0, t.1)) (at_end xs a b j e)

module _ (s : T) (k : KeptQueue s) (id : ℕ) where
  -- the seats of the putter and of the taker are these now, and every other seat than id and other knows what it knew
  abbrev Others : ℕ → ℕ → ℕ → Type 0
  Others other putter taker = ((putter ≡ k.putter_seat) ⊎ ((id ≡ k.putter_seat) ⊎ (other ≡ k.putter_seat))) × ((taker ≡ k.taker_seat) ⊎ ((id ≡ k.taker_seat) ⊎ (other ≡ k.taker_seat)))

  kept_at : (other from to j : ℕ) → j ≢ id → j ≢ other → (to ≡ from) ⊎ ((id ≡ from) ⊎ (other ≡ from)) → j ≡ from → j ≡ to
  kept_at other from to j ne ne' how at = ⊎_elim (λ (e : to ≡ from). at ∙ sym e) (λ (t : (id ≡ from) ⊎ (other ≡ from)). ⊎_elim (λ (e : id ≡ from). absurd (ne (at ∙ sym e))) (λ (e : other ≡ from). absurd (ne' (at ∙ sym e))) t) how

  others_know : (other putter taker : ℕ) → Others other putter taker → (j : ℕ) → j ≢ id → j ≢ other → (u : SeatView) → KnowsItsQueue k.putter k.taker k.putter_seat k.taker_seat j u → KnowsItsQueue k.putter k.taker putter taker j u
  others_know other putter taker how j ne ne' = elim [
    | Puts v ↦ λ h. (h.0, kept_at other k.putter_seat putter j ne ne' how.0 h.1)
    | Takes u ↦ λ h. (h.0, kept_at other k.taker_seat taker j ne ne' how.1 h.1)
    | Meets v u ↦ λ h. ((h.0.0, kept_at other k.putter_seat putter j ne ne' how.0 h.0.1), (h.1.0, kept_at other k.taker_seat taker j ne ne' how.1 h.1.1))
    | Spent ↦ λ h. tt
  ]

  -- a seat is parted
  parts : (putter taker : ℕ) (left right : SeatView) → KnowsItsQueue k.putter k.taker putter taker id left → KnowsItsQueue k.putter k.taker putter taker (length s.views) right
      → Others id putter taker
      → KeptQueue (record { words = s.words; homes = s.homes; views = set s.views id left ++ right ∷ [] })
  parts putter taker left right here there how = record {
    putter = k.putter;
    taker = k.taker;
    putter_seat = putter;
    taker_seat = taker;
    lawful = k.lawful;
    seats = λ j u e. ⊎_elim
        (λ (old : get_elem? (set s.views id left) j ≡ some u). ⊎_elim
        (λ (t : (j ≡ id) × (left ≡ u)). subst (λ (z : SeatView). KnowsItsQueue k.putter k.taker putter taker j z) t.1 (subst (λ (i : ℕ). KnowsItsQueue k.putter k.taker putter taker i left) (sym t.0) here))
        (λ (t : (j ≢ id) × (get_elem? s.views j ≡ some u)). others_know id putter taker how j t.0 t.0 u (k.seats j u t.1))
        (at_set s.views id j left u old))
        (λ (t : (j ≡ length (set s.views id left)) × (right ≡ u)). subst (λ (z : SeatView). KnowsItsQueue k.putter k.taker putter taker j z) t.1
        (subst (λ (i : ℕ). KnowsItsQueue k.putter k.taker putter taker i right) (sym (t.0 ∙ length-set s.views id left)) there))
        (at_end (set s.views id left) right u j e);
  }

  -- two seats are joined, and the other is spent
  joins : (other putter taker : ℕ) (both : SeatView) → KnowsItsQueue k.putter k.taker putter taker id both → Others other putter taker
      → KeptQueue (record { words = s.words; homes = s.homes; views = set (set s.views id both) other Spent })
  joins other putter taker both here how = record {
    putter = k.putter;
    taker = k.taker;
    putter_seat = putter;
    taker_seat = taker;
    lawful = k.lawful;
    seats = λ j u e. ⊎_elim
        (λ (t : (j ≡ other) × (Spent ≡ u)). subst (λ (z : SeatView). KnowsItsQueue k.putter k.taker putter taker j z) t.1 tt)
        (λ (t : (j ≢ other) × (get_elem? (set s.views id both) j ≡ some u)). ⊎_elim
        (λ (y : (j ≡ id) × (both ≡ u)). subst (λ (z : SeatView). KnowsItsQueue k.putter k.taker putter taker j z) y.1 (subst (λ (i : ℕ). KnowsItsQueue k.putter k.taker putter taker i both) (sym y.0) here))
        (λ (y : (j ≢ id) × (get_elem? s.views j ≡ some u)). others_know other putter taker how j y.0 t.0 u (k.seats j u y.1))
        (at_set s.views id j both u t.1))
        (at_set (set s.views id both) other j Spent u e);
  }

module _ (id : ℕ) where
  part : (p : QueueView) (t : QueueView) → Splits KeptQueue id (Meets p t) (Takes t) (Puts p)
  part p t s k at = let me = k.seats id (Meets p t) at in
      parts s k id (length s.views) k.taker_seat (Takes t) (Puts p) me.1 (me.0.0, refl) (inr (inl me.0.1), inl refl)

  pub part_at : (v : SeatView) (p : QueueView) (t : QueueView) → v ≡ Meets p t → Splits KeptQueue id v (taker_parted v) (putter_left v)
  part_at v p t is = subst (λ (z : SeatView). Splits KeptQueue id z (taker_parted z) (putter_left z)) (sym is) (part p t)

  lend : (p : QueueView) → Splits KeptQueue id (Puts p) Spent (Puts p)
  lend p s k at = let me = k.seats id (Puts p) at in
      parts s k id (length s.views) k.taker_seat Spent (Puts p) tt (me.0, refl) (inr (inl me.1), inl refl)

  pub lend_at : (v : SeatView) (p : QueueView) → v ≡ Puts p → Splits KeptQueue id v Spent v
  lend_at v p is = subst (λ (z : SeatView). Splits KeptQueue id z Spent z) (sym is) (lend p)

  meets : (other : ℕ) (p : QueueView) (t : QueueView) → Joins KeptQueue id (Takes t) other (Puts p) (Meets p t) Spent
  meets other p t s k at ne there =
      let them = k.seats other (Puts p) (sym (set_else s.views id other (Meets p t) ne) ∙ there) in
      let me = k.seats id (Takes t) at in
      joins s k id other id k.taker_seat (Meets p t) ((them.0, refl), me) (inr (inr them.1), inl refl)

  pub meet_at : (other : ℕ) (p : QueueView) (t : QueueView) (x y : SeatView) → x ≡ Takes t → y ≡ Puts p → Joins KeptQueue id x other y (views_met x y) Spent
  meet_at other p t x y is_x is_y =
      subst (λ (z : SeatView). Joins KeptQueue id z other y (views_met z y) Spent) (sym is_x)
      (subst (λ (z : SeatView). Joins KeptQueue id (Takes t) other z (views_met (Takes t) z) Spent) (sym is_y) (meets other p t))

  regain : (other : ℕ) (p : QueueView) → Joins KeptQueue id Spent other (Puts p) (Puts p) Spent
  regain other p s k at ne there =
      let them = k.seats other (Puts p) (sym (set_else s.views id other (Puts p) ne) ∙ there) in
      joins s k id other id k.taker_seat (Puts p) (them.0, refl) (inr (inr them.1), inl refl)

  pub regain_at : (other : ℕ) (p : QueueView) (x y : SeatView) → x ≡ Spent → y ≡ Puts p → Joins KeptQueue id x other y y Spent
  regain_at other p x y is_x is_y =
      subst (λ (z : SeatView). Joins KeptQueue id z other y y Spent) (sym is_x)
      (subst (λ (z : SeatView). Joins KeptQueue id Spent other z z Spent) (sym is_y) (regain other p))
