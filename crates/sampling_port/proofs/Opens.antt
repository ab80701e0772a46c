-- The opening of a port, and how seats are parted and joined.
use Rattle.std.proofs.Common.{◌≡◌, ◌≢◌, ℕ, zero, suc, ◌+◌, ◌-◌, ◌<◌, ◌≤◌, ◌⊎◌, inl, inr, ⊎_elim, Bool, cond, eqb, List, [], ◌∷◌, ◌++◌, length, set, replicate, sym, refl, ap, ◌∙◌, subst, arith, get_or, length-append, length-set, get_or-set_same, eq-eqb, ne_eqb}
use Rattle.std.proofs.lemmas.List.{get_or-append_right, get_or_append_left, get_or-replicate, length-replicate, set-get_or, length_push}
use Rattle.std.proofs.lemmas.Bool.{cases_lt}
use Rattle.std.proofs.Math.Seq.{get_or-append_seam}
use mathlib.Core.Option.{some, none, some-injective, some-ne-none}
use lib.ListN.{get_elem?}
use Rattle.atomic_table.specs.Table.{keeps, step, Allows, opening, Splits, Joins}
use Rattle.atomic_table.proofs.Lists.{at_set, set_else}
use Rattle.slot_core.specs.declared.view.Phase.TheVariants.{Idle}
use Rattle.slot_core.specs.declared.view.ReaderView.{ReaderView}
use Rattle.slot_core.specs.declared.view.WriterView.{WriterView}
use Rattle.slot_core.specs.Words.{table_words}
use Rattle.slot_core.specs.State.{StartsWithSeen, newcomer, HasWord}
use Rattle.slot_core.specs.State.{first_writer as unwritten}
use Rattle.slot_core.specs.Lawful.{Lawful, IsReader}
use Rattle.slot_core.proofs.Messages.{seen_all}
use Rattle.slot_core.proofs.ReaderSteps.{view_changes}
use Rattle.slot_core.proofs.Interleavings.{opening_is_lawful}
use Rattle.sampling_port.specs.declared.rule.WriterLog.{WriterLog}
use Rattle.sampling_port.specs.declared.rule.ReaderLog.{ReaderLog}
use Rattle.sampling_port.specs.declared.rule.SeatView.{SeatView}
use Rattle.sampling_port.specs.declared.rule.SeatView.TheVariants.{Opens, Writes, Reads, Meets, Spent}
use Rattle.sampling_port.specs.Reads.{IsIdle}
use Rattle.sampling_port.specs.Rule.{Knows, KeptTable, new_writer_log, first_reader}
use Rattle.sampling_port.specs.Plays.{At, less_one, next_one, learns, met, parted, writer_again, tells_published}
use Rattle.atomic_table.specs.Seated.{TableId}
use Rattle.sampling_port.specs.Seats.{ReaderSeated}
use Rattle.sampling_port.specs.Seats.{new_seat, new_seats}
use Rattle.sampling_port.proofs.Turns.{core, T, turns}

first_only : (v u : SeatView) (j : ℕ) → get_elem? (v ∷ []) j ≡ some u → (j ≡ 0) × (v ≡ u)
first_only v u zero e = (refl, some-injective v u e)
first_only v u (suc j) e = absurd (some-ne-none u (sym e))

pub opens_at : (n m : ℕ) → KeptTable n m (opening (replicate (table_words n m) 0) [] (Opens 0))
opens_at n m = record {
  writer = unwritten;
  readers = replicate n newcomer;
  writer_seat = 0;
  owner = λ _. 0;
  lawful = opening_is_lawful n m;
  seats = λ j u e. let t = first_only (Opens 0) u j e in subst (λ (z : SeatView). Knows unwritten (replicate n newcomer) 0 (λ _. 0) j z) t.1
      (refl, t.0, λ r _ lt. (get_or-replicate n r newcomer newcomer (subst (λ (y : ℕ). r < y) (length-replicate n newcomer) lt), sym t.0));
}

at_end : (l : List SeatView) (a b : SeatView) (j : ℕ) → get_elem? (l ++ a ∷ []) j ≡ some b → (get_elem? l j ≡ some b) ⊎ ((j ≡ length l) × (a ≡ b))
at_end [] a b zero e = inr (refl, some-injective a b e)
at_end [] a b (suc j) e = absurd (some-ne-none b (sym e))
at_end (x ∷ xs) a b zero e = inl e
at_end (x ∷ xs) a b (suc j) e = ⊎_elim (λ t. inl t) (λ t. inr (ap suc t.0, t.1)) (at_end xs a b j e)

-- the seats that have the readers, where the reader p moves to the seat to
abbrev moved : (ℕ → ℕ) → ℕ → ℕ → ℕ → ℕ
moved owner p to q = cond (eqb q p) to (owner q)

moved_here : (owner : ℕ → ℕ) (p to q : ℕ) → q ≡ p → moved owner p to q ≡ to
moved_here owner p to q e = ap (λ (b : Bool). cond b to (owner q)) (eq-eqb q p e)

moved_else : (owner : ℕ → ℕ) (p to q : ℕ) → q ≢ p → moved owner p to q ≡ owner q
moved_else owner p to q ne = ap (λ (b : Bool). cond b to (owner q)) (ne_eqb q p ne)

module _ (n m : ℕ) (s : T) (k : KeptTable n m s) (id : ℕ) where
  -- a seat is parted: what the two know, and the others
  parts : (writer : ℕ) (owner : ℕ → ℕ) (left right : SeatView) → Knows k.writer k.readers writer owner id left → Knows k.writer k.readers writer owner (length s.views) right
      → ((j : ℕ) → j ≢ id → (u : SeatView) → Knows k.writer k.readers k.writer_seat k.owner j u → Knows k.writer k.readers writer owner j u)
      → KeptTable n m (record { words = s.words; homes = s.homes; views = set s.views id left ++ right ∷ [] })
  parts writer owner left right here there others = record {
    writer = k.writer;
    readers = k.readers;
    writer_seat = writer;
    owner = owner;
    lawful = k.lawful;
    seats = λ j u e. ⊎_elim
        (λ (old : get_elem? (set s.views id left) j ≡ some u). ⊎_elim
        (λ (t : (j ≡ id) × (left ≡ u)). subst (λ (z : SeatView). Knows k.writer k.readers writer owner j z) t.1 (subst (λ (i : ℕ). Knows k.writer k.readers writer owner i left) (sym t.0) here))
        (λ (t : (j ≢ id) × (get_elem? s.views j ≡ some u)). others j t.0 u (k.seats j u t.1))
        (at_set s.views id j left u old))
        (λ (t : (j ≡ length (set s.views id left)) × (right ≡ u)). subst (λ (z : SeatView). Knows k.writer k.readers writer owner j z) t.1
        (subst (λ (i : ℕ). Knows k.writer k.readers writer owner i right) (sym (t.0 ∙ length-set s.views id left)) there))
        (at_end (set s.views id left) right u j e);
  }

  -- two seats are joined, and the other is spent
  joins : (other writer : ℕ) (owner : ℕ → ℕ) (both : SeatView) → Knows k.writer k.readers writer owner id both
      → ((j : ℕ) → j ≢ id → j ≢ other → (u : SeatView) → Knows k.writer k.readers k.writer_seat k.owner j u → Knows k.writer k.readers writer owner j u)
      → KeptTable n m (record { words = s.words; homes = s.homes; views = set (set s.views id both) other Spent })
  joins other writer owner both here others = record {
    writer = k.writer;
    readers = k.readers;
    writer_seat = writer;
    owner = owner;
    lawful = k.lawful;
    seats = λ j u e. ⊎_elim
        (λ (t : (j ≡ other) × (Spent ≡ u)). subst (λ (z : SeatView). Knows k.writer k.readers writer owner j z) t.1 tt)
        (λ (t : (j ≢ other) × (get_elem? (set s.views id both) j ≡ some u)). ⊎_elim
        (λ (y : (j ≡ id) × (both ≡ u)). subst (λ (z : SeatView). Knows k.writer k.readers writer owner j z) y.1 (subst (λ (i : ℕ). Knows k.writer k.readers writer owner i both) (sym y.0) here))
        (λ (y : (j ≢ id) × (get_elem? s.views j ≡ some u)). others j y.0 t.0 u (k.seats j u y.1))
        (at_set s.views id j both u t.1))
        (at_set (set s.views id both) other j Spent u e);
  }

  -- no other seat has the writer
  abbrev pub Apart : ℕ → Type 0
  Apart writer = (j : ℕ) → j ≢ id → (u : SeatView) → Knows k.writer k.readers k.writer_seat k.owner j u → Knows k.writer k.readers writer k.owner j u

  apart : id ≡ k.writer_seat → (writer : ℕ) → Apart writer
  apart mine writer j ne = elim [
    | Opens p ↦ λ h. absurd (ne (h.1 ∙ sym mine))
    | Writes x ↦ λ h. absurd (ne (h.1 ∙ sym mine))
    | Reads q x ↦ λ h. h
    | Meets x q v ↦ λ h. absurd (ne (h.0.1 ∙ sym mine))
    | Spent ↦ λ h. tt
  ]

module _ (n m : ℕ) (id : ℕ) where
  -- ---- the opening

  part : (p : ℕ) → p < n → Splits (KeptTable n m) id (Opens p) (Opens (p + 1)) (Reads p first_reader)
  part p most s k at =
      let me = k.seats id (Opens p) at in let to : ℕ = length s.views in let own = moved k.owner p to in let ln = k.lawful.views in
      let mine = me.2 p (omega arith) (omega arith) in
      parts n m s k id k.writer_seat own (Opens (p + 1)) (Reads p first_reader)
      (me.0, me.1, λ r le lt. let z = me.2 r (omega arith) lt in (z.0, moved_else k.owner p to r (λ h. omega arith) ∙ z.1))
      (omega arith, mine.0, moved_here k.owner p to p refl)
      (λ j ne. elim [
        | Opens x ↦ λ h. absurd (ne (h.1 ∙ sym me.1))
        | Writes x ↦ λ h. h
        | Reads q x ↦ λ h. (h.0, h.1, moved_else k.owner p to q (λ e. ne (sym h.2 ∙ ap k.owner e ∙ mine.1)) ∙ h.2)
        | Meets w q x ↦ λ h. (h.0, (h.1.0, h.1.1, moved_else k.owner p to q (λ e. ne (sym h.1.2 ∙ ap k.owner e ∙ mine.1)) ∙ h.1.2))
        | Spent ↦ λ h. tt
      ])

  pub part_at : (p : ℕ) (v : SeatView) → v ≡ Opens p → p < n → Splits (KeptTable n m) id v (less_one v) (next_one v)
  part_at p v is most = subst (λ (z : SeatView). Splits (KeptTable n m) id z (less_one z) (next_one z)) (sym is) (part p most)

  lead : (p : ℕ) → Splits (KeptTable n m) id (Opens p) Spent (Writes new_writer_log)
  lead p s k at = let me = k.seats id (Opens p) at in
      parts n m s k id (length s.views) k.owner Spent (Writes new_writer_log) tt (sym me.0, refl) (apart n m s k id me.1 (length s.views))

  pub lead_at : (p : ℕ) (v : SeatView) → v ≡ Opens p → Splits (KeptTable n m) id v Spent (Writes new_writer_log)
  lead_at p v is = subst (λ (z : SeatView). Splits (KeptTable n m) id z Spent (Writes new_writer_log)) (sym is) (lead p)

  -- ---- the writer's view goes to a reader's seat, and comes back

  lend : (w : WriterLog) → Splits (KeptTable n m) id (Writes w) Spent (Writes w)
  lend w s k at = let me = k.seats id (Writes w) at in
      parts n m s k id (length s.views) k.owner Spent (Writes w) tt (me.0, refl) (apart n m s k id me.1 (length s.views))

  pub lend_at : (w : WriterLog) (v : SeatView) → v ≡ Writes w → Splits (KeptTable n m) id v Spent v
  lend_at w v is = subst (λ (z : SeatView). Splits (KeptTable n m) id z Spent z) (sym is) (lend w)

  -- the writer's seat is the other one
  far : (s : T) (k : KeptTable n m s) (other : ℕ) → other ≡ k.writer_seat → (j : ℕ) → j ≢ id → j ≢ other → (u : SeatView) → Knows k.writer k.readers k.writer_seat k.owner j u → Knows k.writer k.readers id k.owner j u
  far s k other theirs j _ ne = elim [
    | Opens p ↦ λ h. absurd (ne (h.1 ∙ sym theirs))
    | Writes x ↦ λ h. absurd (ne (h.1 ∙ sym theirs))
    | Reads q x ↦ λ h. h
    | Meets x q v ↦ λ h. absurd (ne (h.0.1 ∙ sym theirs))
    | Spent ↦ λ h. tt
  ]

  meet : (r other : ℕ) (v : ReaderLog) (w : WriterLog) → Joins (KeptTable n m) id (Reads r v) other (Writes w) (Meets w r v) Spent
  meet r other v w s k at ne there =
      let me = k.seats id (Reads r v) at in
      let old : get_elem? s.views other ≡ some (Writes w) = sym (set_else s.views id other (Meets w r v) ne) ∙ there in
      let them = k.seats other (Writes w) old in
      joins n m s k id other id k.owner (Meets w r v) ((them.0, refl), me) (far s k other them.1)

  pub meet_at : (r other : ℕ) (v : ReaderLog) (w : WriterLog) (x y : SeatView) → x ≡ Reads r v → y ≡ Writes w → Joins (KeptTable n m) id x other y (met x y) Spent
  meet_at r other v w x y is_x is_y =
      subst (λ (z : SeatView). Joins (KeptTable n m) id z other y (met z y) Spent) (sym is_x)
      (subst (λ (z : SeatView). Joins (KeptTable n m) id (Reads r v) other z (met (Reads r v) z) Spent) (sym is_y) (meet r other v w))

  part_again : (r : ℕ) (v : ReaderLog) (w : WriterLog) → Splits (KeptTable n m) id (Meets w r v) (Reads r v) (Writes w)
  part_again r v w s k at = let me = k.seats id (Meets w r v) at in
      parts n m s k id (length s.views) k.owner (Reads r v) (Writes w) me.1 (me.0.0, refl) (apart n m s k id me.0.1 (length s.views))

  pub part_again_at : (r : ℕ) (v : ReaderLog) (w : WriterLog) (x : SeatView) → x ≡ Meets w r v → Splits (KeptTable n m) id x (parted x) (writer_again x)
  part_again_at r v w x is = subst (λ (z : SeatView). Splits (KeptTable n m) id z (parted z) (writer_again z)) (sym is) (part_again r v w)

  regain : (other : ℕ) (w : WriterLog) → Joins (KeptTable n m) id Spent other (Writes w) (Writes w) Spent
  regain other w s k at ne there =
      let old : get_elem? s.views other ≡ some (Writes w) = sym (set_else s.views id other (Writes w) ne) ∙ there in
      let them = k.seats other (Writes w) old in
      joins n m s k id other id k.owner (Writes w) (them.0, refl) (far s k other them.1)

  pub regain_at : (other : ℕ) (w : WriterLog) (x y : SeatView) → x ≡ Spent → y ≡ Writes w → Joins (KeptTable n m) id x other y y Spent
  regain_at other w x y is_x is_y =
      subst (λ (z : SeatView). Joins (KeptTable n m) id z other y y Spent) (sym is_x)
      (subst (λ (z : SeatView). Joins (KeptTable n m) id Spent other z z Spent) (sym is_y) (regain other w))

  -- ---- a reader is told what was published

  module _ (slots r : ℕ) (w : WriterLog) (v : ReaderLog) (c : List (ℕ × Unit {0})) (idle : v.view.phase ≡ Idle) where
    tell_allowed : Allows (KeptTable n m) slots id (Meets w r v, c) 0 (λ x. x) (tells_published (step slots 0 0 0 none) (Meets w r v, c))
    tell_allowed s k _ mine _ =
        let me = k.seats id (Meets w r v) mine in
        let ln = k.lawful.views in let lt : r < length k.readers = me.1.0 in let low : r < n = omega arith in
        let is = me.1.1 in
        let all = w.view.published in
        let same : w.view ≡ k.writer = me.0.0 in
        let old : IsReader n m s.words k.writer r v.view = subst (λ (z : ReaderView). IsReader n m s.words k.writer r z) is (k.lawful.each r low) in
        let v' : ReaderView = (learns v all).view in
        let now : IsReader n m s.words k.writer r v' = record {
          own = old.own;
          idle = old.idle;
          announced = old.announced;
          holding = old.holding;
          seen = subst (λ (z : WriterView). StartsWithSeen z.published all) same (seen_all all);
          shows = λ word e. absurd (subst (λ p. HasWord p word) idle e);
          newest = λ word e _. absurd (subst (λ p. HasWord p word) idle e);
          held = λ word e. absurd (cc);
          noticed = old.noticed;
        } in
        let ok : Lawful n m (core s.words k.writer (set k.readers r v')) = view_changes n m (core s.words k.writer k.readers) k.lawful r low v' (ap (λ (z : ReaderView). z.own) (sym is)) now in (
          Meets w r (learns v all),
          keeps,
          tt,
          turns n m s k id r me.1.2 v' _ _ (Meets w r (learns v all))
              (me.0, (subst (λ (z : ℕ). r < z) (sym (length-set k.readers r v')) lt, get_or-set_same k.readers r v' newcomer lt, me.1.2))
              (subst (λ (z : List ℕ). Lawful n m (core z k.writer (set k.readers r v'))) (sym (set-get_or s.words 0 0)) ok),
          (refl, refl, subst (λ (z : WriterView). StartsWithSeen z.published v.view.seen) (sym same) old.seen),
        )

  pub tell_at : (slots r : ℕ) (w : WriterLog) (v : ReaderLog) (me : At) → me.0 ≡ Meets w r v → v.view.phase ≡ Idle → Allows (KeptTable n m) slots id me 0 (λ x. x) (tells_published (step slots 0 0 0 none) me)
  tell_at slots r w v me is idle = subst (λ (y : SeatView). Allows (KeptTable n m) slots id (y, me.1) 0 (λ x. x) (tells_published (step slots 0 0 0 none) (y, me.1))) (sym is) (tell_allowed slots r w v me.1 idle)

-- ---- the readers of a port that was just opened

pub one_more : (port port' : TableId) (n : ℕ) (readers : List ReaderSeated) (reader : ReaderSeated) → readers ≡ new_seats port n → reader ≡ new_seat port n → port' ≡ port
    → readers ++ reader ∷ [] ≡ new_seats port' (n + 1)
one_more port port' n readers reader old one same =
    let e : n + 1 ≡ suc n = omega arith in
    let P : TableId → Type 0 = λ z. readers ++ reader ∷ [] ≡ new_seats z (suc n) in
    rw e (subst P (sym same) (rw (old, one) refl))

pub count_of : (port : TableId) (n : ℕ) → length (new_seats port n) ≡ n
count_of port zero = refl
count_of port (suc n) = length_push (new_seats port n) (new_seat port n) ∙ (let e = count_of port n in omega arith)

-- each of them is idle
new_at : (port : TableId) (n i : ℕ) (d : ReaderSeated) → i < n → get_or (new_seats port n) i d ≡ new_seat port i
new_at port zero i d low = absurd (omega (arith, low))
new_at port (suc n) i d low = ⊎_elim
    (λ (less : i < n). get_or_append_left (new_seats port n) (new_seat port n ∷ []) d i (let size = count_of port n in omega (arith, size, less)) ∙ new_at port n i d less)
    (λ (more : n ≤ i). let same : i ≡ n = omega (arith, low, more) in let at : i - n ≡ 0 = omega (arith, same) in
    get_or-append_right (new_seats port n) (new_seat port n ∷ []) n i d (count_of port n) more ∙ ap (λ (k : ℕ). get_or (new_seat port n ∷ []) k d) at ∙ ap (new_seat port) (sym same))
    (cases_lt i n)

pub each_is_idle : (port : TableId) (n : ℕ) (before after : List ReaderSeated) (seat : ReaderSeated) → before ++ seat ∷ after ≡ new_seats port n → IsIdle seat.knows.view
each_is_idle port n before after seat is =
    let size = count_of port n in let sum = length-append before (seat ∷ after) in let same = ap (λ (l : List ReaderSeated). length l) is in
    let one : seat ≡ new_seat port (length before) = sym (get_or-append_seam before seat after (new_seat port 0)) ∙ ap (λ (l : List ReaderSeated). get_or l (length before) (new_seat port 0)) is
    ∙ new_at port n (length before) (new_seat port 0) (omega (arith, size, sum, same)) in
    subst (λ (s : ReaderSeated). IsIdle s.knows.view) (sym one) (refl, refl)
