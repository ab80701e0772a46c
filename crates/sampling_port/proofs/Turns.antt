-- Each step that the core allows keeps the rule of the table.
use Rattle.std.proofs.Common.{◌≡◌, ◌≢◌, ℕ, ◌+◌, ◌-◌, ◌<◌, ◌≤◌, ⊎_elim, List, length, get_or, set, sym, refl, ap, ◌∙◌, subst, arith, length-set, get_or-set_same, get_or-set_other}
use Rattle.std.proofs.lemmas.List.{set-get_or}
use mathlib.Core.Option.{Option, some, none}
use lib.ListN.{get_elem?}
use Rattle.atomic_table.specs.Table as table
use Rattle.atomic_table.specs.Table.{keeps, step, Allows}
use Rattle.atomic_table.proofs.Lists.{at_set}
use Rattle.slot_core.specs.declared.view.Phase.{Phase}
use Rattle.slot_core.specs.declared.view.Phase.TheVariants.{Holding}
use Rattle.slot_core.specs.declared.view.ReaderView.{ReaderView}
use Rattle.slot_core.specs.declared.view.WriterView.{WriterView}
use Rattle.slot_core.specs.Words.{latest_number, place_of_slot_word, slot_of}
use Rattle.slot_core.specs.State.{State, newcomer, view_at, word_of}
use Rattle.slot_core.specs.Lawful.{Lawful, IsReader}
use Rattle.slot_core.specs.Steps.{scans, stores, publishes, begins, announces, clears, word_to_show}
use Rattle.slot_core.specs.Steps.{looks_again as again}
use Rattle.slot_core.specs.Allowed.{MayScan, MayStore, MayPublish, MayBegin, MayAnnounce, MayLookAgain}
use Rattle.slot_core.proofs.WriterSteps.{scan_keeps, store_word_keeps, store_latest_keeps}
use Rattle.slot_core.proofs.ReaderSteps.{announce_keeps, clear_keeps, load_first_keeps, load_second_keeps}
use Rattle.slot_core.proofs.Interleavings.{failed_look_is_later}
use Rattle.sampling_port.specs.declared.rule.WriterLog.{WriterLog}
use Rattle.sampling_port.specs.declared.rule.ReaderLog.{ReaderLog}
use Rattle.sampling_port.specs.declared.rule.SeatView.{SeatView}
use Rattle.sampling_port.specs.declared.rule.SeatView.TheVariants.{Opens, Writes, Reads, Meets, Spent}
use Rattle.sampling_port.specs.Rule.{Knows, KeptTable}
use Rattle.sampling_port.specs.Plays.{At, writes, reads, looks_first, looks_again, Looks, first, second, announced, got, cleared, scanned, stored, published}

abbrev pub T : Type 0
T = table.State (Unit {0}) SeatView

abbrev pub core : List ℕ → WriterView → List ReaderView → State
core ws w rs = record { words = ws; writer = w; views = rs }

module _ (n m : ℕ) (s : T) (k : KeptTable n m s) (id : ℕ) where
  -- what the reader r of this seat knows becomes v, and the view of the seat becomes x
  pub turns : (r : ℕ) → k.owner r ≡ id → (v : ReaderView) (ws : List ℕ) (hs : List (Option (Unit {0}))) (x : SeatView)
      → Knows k.writer (set k.readers r v) k.writer_seat k.owner id x → Lawful n m (core ws k.writer (set k.readers r v))
      → KeptTable n m (record { words = ws; homes = hs; views = set s.views id x })
  turns r mine v ws hs x me ok =
      let rs' = set k.readers r v in
      let size : length rs' ≡ length k.readers = length-set k.readers r v in
      let apart : (j q : ℕ) → j ≢ id → k.owner q ≡ j → view_at rs' q ≡ view_at k.readers q = λ j q ne h. get_or-set_other k.readers r q v newcomer (λ e. ne (sym h ∙ ap k.owner e ∙ mine)) in
      let others : (j : ℕ) → j ≢ id → (u : SeatView) → Knows k.writer k.readers k.writer_seat k.owner j u → Knows k.writer rs' k.writer_seat k.owner j u = λ j ne. elim [
        | Opens parted ↦ λ h. (h.0, h.1, λ q le lt. let z = h.2 q le (subst (λ (y : ℕ). q < y) size lt) in (apart j q ne z.1 ∙ z.0, z.1))
        | Writes y ↦ λ h. h
        | Reads q y ↦ λ h. (subst (λ (z : ℕ). q < z) (sym size) h.0, apart j q ne h.2 ∙ h.1, h.2)
        | Meets w q y ↦ λ h. (h.0, (subst (λ (z : ℕ). q < z) (sym size) h.1.0, apart j q ne h.1.2 ∙ h.1.1, h.1.2))
        | Spent ↦ λ h. tt
      ] in record {
        writer = k.writer;
        readers = rs';
        writer_seat = k.writer_seat;
        owner = k.owner;
        lawful = ok;
        seats = λ j u e. ⊎_elim
            (λ (t : (j ≡ id) × (x ≡ u)). subst (λ (z : SeatView). Knows k.writer rs' k.writer_seat k.owner j z) t.1
            (subst (λ (i : ℕ). Knows k.writer rs' k.writer_seat k.owner i x) (sym t.0) me))
            (λ (t : (j ≢ id) × (get_elem? s.views j ≡ some u)). others j t.0 u (k.seats j u t.1))
            (at_set s.views id j x u e);
      }

  -- the seat of the reader r
  module _ (r : ℕ) (v : ReaderLog) (at : get_elem? s.views id ≡ some (Reads r v)) where
    pub below : r < n
    below = let ln = k.lawful.views in let lr = (k.seats id (Reads r v) at).0 in omega arith

    pub reader_is : view_at k.readers r ≡ v.view
    reader_is = (k.seats id (Reads r v) at).1

    pub reader_known : IsReader n m s.words k.writer r v.view
    reader_known = subst (λ (z : ReaderView). IsReader n m s.words k.writer r z) reader_is (k.lawful.each r below)

    -- a step of the core at this reader, as one at this seat
    pub at_view : (ws : ReaderView → List ℕ) (f : ReaderView → ReaderView)
        → Lawful n m (core (ws (view_at k.readers r)) k.writer (set k.readers r (f (view_at k.readers r)))) → Lawful n m (core (ws v.view) k.writer (set k.readers r (f v.view)))
    at_view ws f = subst (λ (z : ReaderView). Lawful n m (core (ws z) k.writer (set k.readers r (f z)))) reader_is

    -- the view of the reader at this seat becomes that of v', and the words ws
    pub reader_turns : (v' : ReaderLog) (ws : List ℕ) (hs : List (Option (Unit {0}))) → Lawful n m (core ws k.writer (set k.readers r v'.view))
        → KeptTable n m (record { words = ws; homes = hs; views = set s.views id (Reads r v') })
    reader_turns v' ws hs ok = let me = k.seats id (Reads r v) at in
        turns r me.2 v'.view ws hs (Reads r v') (subst (λ (z : ℕ). r < z) (sym (length-set k.readers r v'.view)) me.0, get_or-set_same k.readers r v'.view newcomer me.0, me.2) ok

    -- the same where a word was loaded
    pub reader_loads : (i : ℕ) (v' : ReaderLog) (hs : List (Option (Unit {0}))) → Lawful n m (core s.words k.writer (set k.readers r v'.view))
        → KeptTable n m (record { words = set s.words i (get_or s.words i 0); homes = hs; views = set s.views id (Reads r v') })
    reader_loads i v' hs ok = reader_turns v' _ hs (subst (λ (z : List ℕ). Lawful n m (core z k.writer (set k.readers r v'.view))) (sym (set-get_or s.words i 0)) ok)

  -- the writer's seat
  module _ (w : WriterLog) (at : get_elem? s.views id ≡ some (Writes w)) where
    pub writer_is : w.view ≡ k.writer
    writer_is = (k.seats id (Writes w) at).0

    -- the rule, said of the view of this seat
    pub writer_lawful : Lawful n m (core s.words w.view k.readers)
    writer_lawful = subst (λ (z : WriterView). Lawful n m (core s.words z k.readers)) (sym writer_is) k.lawful

    pub writer_turns : (w' : WriterLog) (ws : List ℕ) (hs : List (Option (Unit {0}))) → Lawful n m (core ws w'.view k.readers)
        → KeptTable n m (record { words = ws; homes = hs; views = set s.views id (Writes w') })
    writer_turns w' ws hs ok =
        let me = k.seats id (Writes w) at in
        let others : (j : ℕ) → j ≢ id → (u : SeatView) → Knows k.writer k.readers k.writer_seat k.owner j u → Knows w'.view k.readers k.writer_seat k.owner j u = λ j ne. elim [
          | Opens parted ↦ λ h. absurd (ne (h.1 ∙ sym me.1))
          | Writes x ↦ λ h. absurd (ne (h.1 ∙ sym me.1))
          | Reads q x ↦ λ h. h
          | Meets x q v ↦ λ h. absurd (ne (h.0.1 ∙ sym me.1))
          | Spent ↦ λ h. tt
        ] in record {
          writer = w'.view;
          readers = k.readers;
          writer_seat = k.writer_seat;
          owner = k.owner;
          lawful = ok;
          seats = λ j u e. ⊎_elim
              (λ (t : (j ≡ id) × (Writes w' ≡ u)). subst (λ (z : SeatView). Knows w'.view k.readers k.writer_seat k.owner j z) t.1 (refl, t.0 ∙ me.1))
              (λ (t : (j ≢ id) × (get_elem? s.views j ≡ some u)). others j t.0 u (k.seats j u t.1))
              (at_set s.views id j (Writes w') u e);
        }

    pub writer_loads : (i : ℕ) (w' : WriterLog) (hs : List (Option (Unit {0}))) → Lawful n m (core s.words w'.view k.readers)
        → KeptTable n m (record { words = set s.words i (get_or s.words i 0); homes = hs; views = set s.views id (Writes w') })
    writer_loads i w' hs ok = writer_turns w' _ hs (subst (λ (z : List ℕ). Lawful n m (core z w'.view k.readers)) (sym (set-get_or s.words i 0)) ok)

-- each step, at a seat whose view is known
module _ (n m slots id : ℕ) where
  module _ (r : ℕ) (v : ReaderLog) (c : List (ℕ × Unit {0})) where
    -- what a look finds
    look : (s : T) (k : KeptTable n m s) (mine : get_elem? s.views id ≡ some (Reads r v)) → Looks m v.view (latest_number s.words) k.writer.published
    look s k mine = record {
      before = (reader_known n m s k id r v mine).seen;
      none = k.lawful.newest.none;
      some = k.lawful.newest.shown;
      message = λ h. k.lawful.newest.messages (length k.writer.published - 1) (omega (arith, h));
    }

    pub first_allowed : MayBegin v.view → Allows (KeptTable n m) slots id (Reads r v, c) 0 (λ x. x) (first m (step slots 0 0 0 none) (Reads r v, c))
    first_allowed may s k _ mine _ = let lt = below n m s k id r v mine in let is = reader_is n m s k id r v mine in let all = k.writer.published in (
      Reads r (looks_first v (latest_number s.words) all),
      keeps,
      tt,
      reader_loads n m s k id r v mine 0 _ _ (at_view n m s k id r v mine (λ _. s.words) (λ z. begins z (latest_number s.words) all) (load_first_keeps n m _ k.lawful r lt (subst MayBegin (sym is) may))),
      (refl, (all, refl, look s k mine)),
    )

    pub second_allowed : MayLookAgain v.view → Allows (KeptTable n m) slots id (Reads r v, c) 0 (λ x. x) (second m (step slots 0 0 0 none) (Reads r v, c))
    second_allowed may s k _ mine _ = let lt = below n m s k id r v mine in let is = reader_is n m s k id r v mine in let all = k.writer.published in let may' = subst MayLookAgain (sym is) may in (
      Reads r (looks_again v (latest_number s.words) all),
      keeps,
      tt,
      reader_loads n m s k id r v mine 0 _ _ (at_view n m s k id r v mine (λ _. s.words) (λ z. again z (latest_number s.words) all) (load_second_keeps n m _ k.lawful r lt may')),
      (refl, (all, refl, look s k mine, subst (λ (z : ReaderView). latest_number s.words ≢ word_of z.phase → length z.seen < length all) is (failed_look_is_later n m (core s.words k.writer k.readers) r k.lawful (lt, may')))),
    )

    pub announce_allowed : (x : ℕ) → MayAnnounce v.view → x ≡ word_of v.view.phase → Allows (KeptTable n m) slots id (Reads r v, c) (1 + r) (λ _. x) (λ _. announced (step slots (1 + r) x 0 none) (Reads r v, c) x)
    announce_allowed x may now s k _ mine _ = let lt = below n m s k id r v mine in let is = reader_is n m s k id r v mine in (
      Reads r (reads v (announces v.view)),
      keeps,
      tt,
      reader_turns n m s k id r v mine _ _ _ (subst (λ (y : ℕ). Lawful n m (core (set s.words (1 + r) y) k.writer (set k.readers r (announces v.view)))) (sym now)
          (at_view n m s k id r v mine (λ z. set s.words (1 + r) (word_of z.phase)) announces (announce_keeps n m _ k.lawful r lt (subst MayAnnounce (sym is) may)))),
      (refl, refl),
    )

    pub get_allowed : (a at_i : ℕ) → v.view.phase ≡ Holding a → Allows (KeptTable n m) slots id (Reads r v, c) at_i (λ x. x) (got n (step slots at_i 0 0 none) (Reads r v, c))
    get_allowed a at_i at s k _ mine _ = let old = reader_known n m s k id r v mine in (
      Reads r (reads v v.view),
      keeps,
      tt,
      reader_loads n m s k id r v mine at_i _ _ (subst (λ (l : List ReaderView). Lawful n m (core s.words k.writer l)) (sym (ap (set k.readers r) (sym (reader_is n m s k id r v mine)) ∙ set-get_or k.readers r newcomer)) k.lawful),
      (refl, λ i inside e. ap (λ (z : ℕ). get_or s.words z 0) (e ∙ ap (λ (p : Phase). place_of_slot_word n (slot_of (word_of p)) i) at) ∙ (old.held a at).1 i inside),
    )

    pub clear_allowed : Allows (KeptTable n m) slots id (Reads r v, c) (1 + r) (λ _. 0) (λ _. cleared (step slots (1 + r) 0 0 none) (Reads r v, c) 0)
    clear_allowed s k _ mine _ = let lt = below n m s k id r v mine in (
      Reads r (reads v (clears v.view)),
      keeps,
      tt,
      reader_turns n m s k id r v mine _ _ _ (at_view n m s k id r v mine (λ _. set s.words (1 + r) 0) clears (clear_keeps n m _ k.lawful r lt)),
      (refl, refl),
    )

  module _ (w : WriterLog) (c : List (ℕ × Unit {0})) where
    pub scan_allowed : (r : ℕ) → MayScan n w.view r → Allows (KeptTable n m) slots id (Writes w, c) (1 + r) (λ x. x) (scanned (step slots (1 + r) 0 0 none) (Writes w, c))
    scan_allowed r may s k _ mine _ = (
      Writes (writes w (scans w.view (get_or s.words (1 + r) 0))),
      keeps,
      tt,
      writer_loads n m s k id w mine (1 + r) _ _ (scan_keeps n m (core s.words w.view k.readers) (writer_lawful n m s k id w mine) r may),
      (ap (λ (z : ℕ). 1 + z) may.next, refl),
    )

    pub store_allowed : (slot index x at : ℕ) → at ≡ place_of_slot_word n slot index → MayStore n m w.view slot index x
        → Allows (KeptTable n m) slots id (Writes w, c) at (λ _. x) (λ _. stored n (step slots at x 0 none) (Writes w, c) x)
    store_allowed slot index x at is may s k _ mine _ = let l = writer_lawful n m s k id w mine in (
      Writes (writes w (stores w.view slot x)),
      keeps,
      tt,
      writer_turns n m s k id w mine _ _ _ (subst (λ (z : ℕ). Lawful n m (core (set s.words z x) (stores w.view slot x) k.readers)) (sym is)
          (store_word_keeps n m (core s.words w.view k.readers) l slot index x may)),
      λ other e. ap (λ (z : ℕ). Writes (writes w (stores w.view z x))) (let eq : place_of_slot_word n slot index ≡ place_of_slot_word n other (length w.view.stored) = sym is ∙ e in let next = may.next in omega arith),
    )

    pub publish_allowed : m ≤ 16 → MayPublish w.view
        → Allows (KeptTable n m) slots id (Writes w, c) 0 (λ _. word_to_show w.view) (λ _. published (step slots 0 (word_to_show w.view) 0 none) (Writes w, c) (word_to_show w.view))
    publish_allowed few may s k _ mine _ = (
      Writes (writes w (publishes w.view)),
      keeps,
      tt,
      writer_turns n m s k id w mine _ _ _ (store_latest_keeps n m (core s.words w.view k.readers) (writer_lawful n m s k id w mine) few may),
      (refl, refl),
    )

  -- the same, at a seat that is known by an equation
  module _ (me : At) where
    -- Q: what is allowed at a view
    at_seat : (Q : SeatView → Type 0) (v : SeatView) → me.0 ≡ v → Q v → Q me.0
    at_seat Q v is = subst Q (sym is)

    pub first_at : (r : ℕ) (v : ReaderLog) → me.0 ≡ Reads r v → MayBegin v.view → Allows (KeptTable n m) slots id me 0 (λ x. x) (first m (step slots 0 0 0 none) me)
    first_at r v is may = at_seat (λ y. Allows (KeptTable n m) slots id (y, me.1) 0 (λ x. x) (first m (step slots 0 0 0 none) (y, me.1))) _ is (first_allowed r v me.1 may)

    pub second_at : (r : ℕ) (v : ReaderLog) → me.0 ≡ Reads r v → MayLookAgain v.view → Allows (KeptTable n m) slots id me 0 (λ x. x) (second m (step slots 0 0 0 none) me)
    second_at r v is may = at_seat (λ y. Allows (KeptTable n m) slots id (y, me.1) 0 (λ x. x) (second m (step slots 0 0 0 none) (y, me.1))) _ is (second_allowed r v me.1 may)

    pub announce_at : (r : ℕ) (v : ReaderLog) → me.0 ≡ Reads r v → (x : ℕ) → MayAnnounce v.view → x ≡ word_of v.view.phase
        → Allows (KeptTable n m) slots id me (1 + r) (λ _. x) (λ _. announced (step slots (1 + r) x 0 none) me x)
    announce_at r v is x may now = at_seat (λ y. Allows (KeptTable n m) slots id (y, me.1) (1 + r) (λ _. x) (λ _. announced (step slots (1 + r) x 0 none) (y, me.1) x)) _ is (announce_allowed r v me.1 x may now)

    pub get_at : (r : ℕ) (v : ReaderLog) → me.0 ≡ Reads r v → (a at_i : ℕ) → v.view.phase ≡ Holding a → Allows (KeptTable n m) slots id me at_i (λ x. x) (got n (step slots at_i 0 0 none) me)
    get_at r v is a at_i at = at_seat (λ y. Allows (KeptTable n m) slots id (y, me.1) at_i (λ x. x) (got n (step slots at_i 0 0 none) (y, me.1))) _ is (get_allowed r v me.1 a at_i at)

    pub clear_at : (r : ℕ) (v : ReaderLog) → me.0 ≡ Reads r v → Allows (KeptTable n m) slots id me (1 + r) (λ _. 0) (λ _. cleared (step slots (1 + r) 0 0 none) me 0)
    clear_at r v is = at_seat (λ y. Allows (KeptTable n m) slots id (y, me.1) (1 + r) (λ _. 0) (λ _. cleared (step slots (1 + r) 0 0 none) (y, me.1) 0)) _ is (clear_allowed r v me.1)

    pub scan_at : (w : WriterLog) → me.0 ≡ Writes w → (r : ℕ) → MayScan n w.view r
        → Allows (KeptTable n m) slots id me (1 + r) (λ x. x) (scanned (step slots (1 + r) 0 0 none) me)
    scan_at w is r may = at_seat (λ y. Allows (KeptTable n m) slots id (y, me.1) (1 + r) (λ x. x) (scanned (step slots (1 + r) 0 0 none) (y, me.1))) _ is (scan_allowed w me.1 r may)

    pub store_at : (w : WriterLog) → me.0 ≡ Writes w → (slot index x at : ℕ) → at ≡ place_of_slot_word n slot index → MayStore n m w.view slot index x
        → Allows (KeptTable n m) slots id me at (λ _. x) (λ _. stored n (step slots at x 0 none) me x)
    store_at w is slot index x at here may = at_seat (λ y. Allows (KeptTable n m) slots id (y, me.1) at (λ _. x) (λ _. stored n (step slots at x 0 none) (y, me.1) x)) _ is (store_allowed w me.1 slot index x at here may)

    pub publish_at : (w : WriterLog) → me.0 ≡ Writes w → (x : ℕ) → x ≡ word_to_show w.view → m ≤ 16 → MayPublish w.view
        → Allows (KeptTable n m) slots id me 0 (λ _. x) (λ _. published (step slots 0 x 0 none) me x)
    publish_at w is x now few may = subst (λ (y : ℕ). Allows (KeptTable n m) slots id me 0 (λ _. y) (λ _. published (step slots 0 y 0 none) me y)) (sym now)
        (at_seat (λ y. Allows (KeptTable n m) slots id (y, me.1) 0 (λ _. word_to_show w.view) (λ _. published (step slots 0 (word_to_show w.view) 0 none) (y, me.1) (word_to_show w.view))) _ is (publish_allowed w me.1 few may))
