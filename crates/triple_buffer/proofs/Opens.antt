-- The opening of a triple buffer, and how seats are parted and joined.
use Rattle.std.proofs.Common.{◌≡◌, ◌≢◌, ℕ, zero, suc, ◌⊎◌, inl, inr, ⊎_elim, List, [], ◌∷◌, ◌++◌, length, set, sym, refl, ap, ◌∙◌, subst, arith, length-set, Some}
use mathlib.Core.Option.{some, some-injective, some-ne-none}
use lib.ListN.{get_elem?}
use Rattle.atomic_table.specs.Table.{opening, Splits, Joins}
use Rattle.atomic_table.proofs.Lists.{at_set, set_else}
use Rattle.triple_buffer.specs.declared.latest.Latest.{Latest}
use Rattle.triple_buffer.specs.declared.rule.WriterView.{WriterView}
use Rattle.triple_buffer.specs.declared.rule.ReaderView.{ReaderView}
use Rattle.triple_buffer.specs.declared.rule.SeatView.{SeatView}
use Rattle.triple_buffer.specs.declared.rule.SeatView.TheVariants.{Writes, Reads, Meets, Spent}
use Rattle.triple_buffer.specs.Rule.{HasRoom, IsLastOf, KnowsItsEnd, KeptBuffers, reader_at_first, writer_at_first}
use Rattle.triple_buffer.specs.Plays.{seats_met, seat_parted, writer_left}
use Rattle.triple_buffer.proofs.Turns.{T, starts_same}

first_only : (v u : SeatView) (j : ℕ) → get_elem? (v ∷ []) j ≡ some u → (j ≡ 0) × (v ≡ u)
first_only v u zero e = (refl, some-injective v u e)
first_only v u (suc j) e = absurd (some-ne-none u (sym e))

empty_last : (b : Latest) → b.number ≡ 0 → IsLastOf b []
empty_last b zero_is = record { number = zero_is; last = λ h. absurd (omega (arith, h)) }

pub opens_at : (longest : ℕ) (a b c : Latest) → HasRoom longest a → HasRoom longest b → HasRoom longest c → c.number ≡ 0
    → KeptBuffers longest (opening (1 ∷ []) (Some a ∷ Some b ∷ Some c ∷ []) (Meets (writer_at_first longest) (reader_at_first longest)))
opens_at longest a b c has_a has_b has_c empty = record {
  writer = writer_at_first longest;
  reader = reader_at_first longest;
  writer_seat = 0;
  reader_seat = 0;
  one = refl;
  lawful = record {
    count = refl;
    places = (omega arith, omega arith, omega arith);
    apart = ((λ e. absurd (omega (arith, e))), (λ e. absurd (omega (arith, e))), (λ e. absurd (omega (arith, e))));
    longest_is = (refl, refl);
    latest = b;
    home = refl;
    room = has_b;
    newest = λ h. absurd (omega (arith, h));
    all_seen = λ _. refl;
    fresh = λ h. absurd (omega (arith, h));
    known = starts_same [];
    seen = starts_same [];
    newer = λ h. absurd (cc);
    writers = λ _. (a, refl, has_a);
    readers = λ _. (c, refl, has_c, empty_last c empty);
  };
  seats = λ j u e. let t = first_only (Meets (writer_at_first longest) (reader_at_first longest)) u j e in
      subst (λ (z : SeatView). KnowsItsEnd (writer_at_first longest) (reader_at_first longest) 0 0 j z) t.1 ((refl, t.0), (refl, t.0));
}

at_end : (l : List SeatView) (a b : SeatView) (j : ℕ) → get_elem? (l ++ a ∷ []) j ≡ some b → (get_elem? l j ≡ some b) ⊎ ((j ≡ length l) × (a ≡ b))
at_end [] a b zero e = inr (refl, some-injective a b e)
at_end [] a b (suc j) e = absurd (some-ne-none b (sym e))
at_end (x ∷ xs) a b zero e = inl e
at_end (x ∷ xs) a b (suc j) e = ⊎_elim (λ t. inl t) (λ t. inr (ap suc t.0, t.1)) (at_end xs a b j e)

module _ (longest : ℕ) (s : T) (k : KeptBuffers longest s) (id : ℕ) where
  -- the seats of the writer and of the reader are these now, and every other seat than id and other knows what it knew
  abbrev Others : ℕ → ℕ → ℕ → Type 0
  Others other writer reader = ((writer ≡ k.writer_seat) ⊎ ((id ≡ k.writer_seat) ⊎ (other ≡ k.writer_seat))) × ((reader ≡ k.reader_seat) ⊎ ((id ≡ k.reader_seat) ⊎ (other ≡ k.reader_seat)))

  kept_at : (other from to j : ℕ) → j ≢ id → j ≢ other → (to ≡ from) ⊎ ((id ≡ from) ⊎ (other ≡ from)) → j ≡ from → j ≡ to
  kept_at other from to j ne ne' how at = ⊎_elim (λ (e : to ≡ from). at ∙ sym e) (λ (t : (id ≡ from) ⊎ (other ≡ from)). ⊎_elim (λ (e : id ≡ from). absurd (ne (at ∙ sym e))) (λ (e : other ≡ from). absurd (ne' (at ∙ sym e))) t) how

  others_know : (other writer reader : ℕ) → Others other writer reader → (j : ℕ) → j ≢ id → j ≢ other → (u : SeatView) → KnowsItsEnd k.writer k.reader k.writer_seat k.reader_seat j u → KnowsItsEnd k.writer k.reader writer reader j u
  others_know other writer reader how j ne ne' = elim [
    | Writes v ↦ λ h. (h.0, kept_at other k.writer_seat writer j ne ne' how.0 h.1)
    | Reads u ↦ λ h. (h.0, kept_at other k.reader_seat reader j ne ne' how.1 h.1)
    | Meets v u ↦ λ h. ((h.0.0, kept_at other k.writer_seat writer j ne ne' how.0 h.0.1), (h.1.0, kept_at other k.reader_seat reader j ne ne' how.1 h.1.1))
    | Spent ↦ λ h. tt
  ]

  -- a seat is parted
  parts : (writer reader : ℕ) (left right : SeatView) → KnowsItsEnd k.writer k.reader writer reader id left → KnowsItsEnd k.writer k.reader writer reader (length s.views) right
      → Others id writer reader
      → KeptBuffers longest (record { words = s.words; homes = s.homes; views = set s.views id left ++ right ∷ [] })
  parts writer reader left right here there how = record {
    writer = k.writer;
    reader = k.reader;
    writer_seat = writer;
    reader_seat = reader;
    one = k.one;
    lawful = k.lawful;
    seats = λ j u e. ⊎_elim
        (λ (old : get_elem? (set s.views id left) j ≡ some u). ⊎_elim
        (λ (t : (j ≡ id) × (left ≡ u)). subst (λ (z : SeatView). KnowsItsEnd k.writer k.reader writer reader j z) t.1 (subst (λ (i : ℕ). KnowsItsEnd k.writer k.reader writer reader i left) (sym t.0) here))
        (λ (t : (j ≢ id) × (get_elem? s.views j ≡ some u)). others_know id writer reader how j t.0 t.0 u (k.seats j u t.1))
        (at_set s.views id j left u old))
        (λ (t : (j ≡ length (set s.views id left)) × (right ≡ u)). subst (λ (z : SeatView). KnowsItsEnd k.writer k.reader writer reader j z) t.1
        (subst (λ (i : ℕ). KnowsItsEnd k.writer k.reader writer reader i right) (sym (t.0 ∙ length-set s.views id left)) there))
        (at_end (set s.views id left) right u j e);
  }

  -- two seats are joined, and the other is spent
  joins : (other writer reader : ℕ) (both : SeatView) → KnowsItsEnd k.writer k.reader writer reader id both → Others other writer reader
      → KeptBuffers longest (record { words = s.words; homes = s.homes; views = set (set s.views id both) other Spent })
  joins other writer reader both here how = record {
    writer = k.writer;
    reader = k.reader;
    writer_seat = writer;
    reader_seat = reader;
    one = k.one;
    lawful = k.lawful;
    seats = λ j u e. ⊎_elim
        (λ (t : (j ≡ other) × (Spent ≡ u)). subst (λ (z : SeatView). KnowsItsEnd k.writer k.reader writer reader j z) t.1 tt)
        (λ (t : (j ≢ other) × (get_elem? (set s.views id both) j ≡ some u)). ⊎_elim
        (λ (y : (j ≡ id) × (both ≡ u)). subst (λ (z : SeatView). KnowsItsEnd k.writer k.reader writer reader j z) y.1 (subst (λ (i : ℕ). KnowsItsEnd k.writer k.reader writer reader i both) (sym y.0) here))
        (λ (y : (j ≢ id) × (get_elem? s.views j ≡ some u)). others_know other writer reader how j y.0 t.0 u (k.seats j u y.1))
        (at_set s.views id j both u t.1))
        (at_set (set s.views id both) other j Spent u e);
  }

module _ (longest id : ℕ) where
  part : (w : WriterView) (r : ReaderView) → Splits (KeptBuffers longest) id (Meets w r) (Reads r) (Writes w)
  part w r s k at = let me = k.seats id (Meets w r) at in
      parts longest s k id (length s.views) k.reader_seat (Reads r) (Writes w) me.1 (me.0.0, refl) (inr (inl me.0.1), inl refl)

  pub part_at : (v : SeatView) (w : WriterView) (r : ReaderView) → v ≡ Meets w r → Splits (KeptBuffers longest) id v (seat_parted v) (writer_left v)
  part_at v w r is = subst (λ (z : SeatView). Splits (KeptBuffers longest) id z (seat_parted z) (writer_left z)) (sym is) (part w r)

  lend : (w : WriterView) → Splits (KeptBuffers longest) id (Writes w) Spent (Writes w)
  lend w s k at = let me = k.seats id (Writes w) at in
      parts longest s k id (length s.views) k.reader_seat Spent (Writes w) tt (me.0, refl) (inr (inl me.1), inl refl)

  pub lend_at : (v : SeatView) (w : WriterView) → v ≡ Writes w → Splits (KeptBuffers longest) id v Spent v
  lend_at v w is = subst (λ (z : SeatView). Splits (KeptBuffers longest) id z Spent z) (sym is) (lend w)

  meets : (other : ℕ) (w : WriterView) (r : ReaderView) → Joins (KeptBuffers longest) id (Reads r) other (Writes w) (Meets w r) Spent
  meets other w r s k at ne there =
      let them = k.seats other (Writes w) (sym (set_else s.views id other (Meets w r) ne) ∙ there) in
      let me = k.seats id (Reads r) at in
      joins longest s k id other id k.reader_seat (Meets w r) ((them.0, refl), me) (inr (inr them.1), inl refl)

  pub meet_at : (other : ℕ) (w : WriterView) (r : ReaderView) (x y : SeatView) → x ≡ Reads r → y ≡ Writes w → Joins (KeptBuffers longest) id x other y (seats_met x y) Spent
  meet_at other w r x y is_x is_y =
      subst (λ (z : SeatView). Joins (KeptBuffers longest) id z other y (seats_met z y) Spent) (sym is_x)
      (subst (λ (z : SeatView). Joins (KeptBuffers longest) id (Reads r) other z (seats_met (Reads r) z) Spent) (sym is_y) (meets other w r))

  regain : (other : ℕ) (w : WriterView) → Joins (KeptBuffers longest) id Spent other (Writes w) (Writes w) Spent
  regain other w s k at ne there =
      let them = k.seats other (Writes w) (sym (set_else s.views id other (Writes w) ne) ∙ there) in
      joins longest s k id other id k.reader_seat (Writes w) (them.0, refl) (inr (inr them.1), inl refl)

  pub regain_at : (other : ℕ) (w : WriterView) (x y : SeatView) → x ≡ Spent → y ≡ Writes w → Joins (KeptBuffers longest) id x other y y Spent
  regain_at other w x y is_x is_y =
      subst (λ (z : SeatView). Joins (KeptBuffers longest) id z other y y Spent) (sym is_x)
      (subst (λ (z : SeatView). Joins (KeptBuffers longest) id Spent other z z Spent) (sym is_y) (regain other w))
