-- A step is allowed exactly if there is no refusal of it.
use Rattle.std.proofs.Common.{◌≡◌, ◌≢◌, ℕ, zero, suc, ◌<◌, Bool, true, false, not, ◌&&◌, ◌||◌, List, [], ◌∷◌, length, get_or, Option, None, Some, refl, ap, arith, subst, inl, inr, ⊎_elim, ◌==◌, if◌then◌else◌, nat_lt, nat_le}
use Rattle.std.specs.List.{list_any}
use Rattle.std.proofs.lemmas.Bool.{and_from, and_left, and_parts, and_right, cases_eq, eq-eqb, eqb-true, le-leb, leb-true, lt-ltb, ltb-true, ne_eqb, not-true}
use Rattle.slot_core.specs.declared.event.CoreEvent.{CoreEvent}
use Rattle.slot_core.specs.declared.event.CoreEvent.TheVariants.{Scan, StoreWord, StoreLatest, LoadFirst, Announce, LoadSecond, LoadWord, Clear}
use Rattle.slot_core.specs.declared.view.Phase.{Phase}
use Rattle.slot_core.specs.declared.view.Phase.TheVariants.{Idle, Loaded, Announced, Holding}
use Rattle.slot_core.specs.declared.view.WriterView.{WriterView}
use Rattle.slot_core.specs.Limits.{longest_message, most_messages, slot_words}
use Rattle.slot_core.specs.Words.{slot_of}
use Rattle.slot_core.specs.Message.{words_for}
use Rattle.slot_core.specs.State.{State, last_of, view_at, word_of}
use Rattle.slot_core.specs.Allowed.{Allowed, IsFree, MayChoose, MayContinue, MayPublish, MayScan, MayStore}
use Rattle.slot_core.specs.Refusal.{first_refusal, has_announced, has_loaded, is_announced, is_found, is_free, is_holding, is_latest, is_padded, may_begin, may_clear, may_continue, may_load_word, may_publish, may_scan, may_store, refusal_of}

passes : (exists turn latest announced : Bool) → first_refusal exists turn latest announced ≡ None
    → (exists ≡ true) × (turn ≡ true) × (latest ≡ false) × (announced ≡ false)
passes true true true announced e = absurd (cc)
passes true true false true e = absurd (cc)
passes true true false false e = (refl, refl, refl, refl)
passes true false latest announced e = absurd (cc)
passes false turn latest announced e = absurd (cc)

free_is : (phase : Phase) → is_free phase ≡ true → IsFree phase
free_is Idle e = inl refl
free_is (Loaded word) e = inr refl
free_is (Announced word) e = absurd (cc)
free_is (Holding word) e = absurd (cc)

loaded_is : (phase : Phase) → has_loaded phase ≡ true → phase ≡ Loaded (word_of phase)
loaded_is Idle e = absurd (cc)
loaded_is (Loaded word) e = refl
loaded_is (Announced word) e = absurd (cc)
loaded_is (Holding word) e = absurd (cc)

announced_is : (phase : Phase) → has_announced phase ≡ true → phase ≡ Announced (word_of phase)
announced_is Idle e = absurd (cc)
announced_is (Loaded word) e = absurd (cc)
announced_is (Announced word) e = refl
announced_is (Holding word) e = absurd (cc)

holding_is : (phase : Phase) → is_holding phase ≡ true → phase ≡ Holding (word_of phase)
holding_is Idle e = absurd (cc)
holding_is (Loaded word) e = absurd (cc)
holding_is (Announced word) e = absurd (cc)
holding_is (Holding word) e = refl

neither : (x y : Bool) → (x || y) ≡ false → (x ≡ false) × (y ≡ false)
neither true y e = absurd (cc)
neither false y e = (refl, e)

unfound : (slot : ℕ) (scanned : List (Option ℕ)) → list_any (is_found slot) scanned ≡ false → (reader : ℕ) → get_or scanned reader None ≢ Some slot
unfound slot [] e reader = λ (found : None ≡ Some slot). cc
unfound slot (x ∷ scanned) e zero = λ (found : x ≡ Some slot).
    let P : Option ℕ → Type 0 = λ o. is_found slot o ≡ false in
    let differ : (slot == slot) ≡ false = subst P found (neither (is_found slot x) (list_any (is_found slot) scanned) e).0 in
    let same : (slot == slot) ≡ true = eq-eqb slot slot refl in cc
unfound slot (x ∷ scanned) e (suc reader) = unfound slot scanned (neither (is_found slot x) (list_any (is_found slot) scanned) e).1 reader

found_none : (slot : ℕ) (scanned : List (Option ℕ)) → ((reader : ℕ) → get_or scanned reader None ≢ Some slot) → list_any (is_found slot) scanned ≡ false
found_none slot [] free = refl
found_none slot (None ∷ scanned) free = found_none slot scanned (λ reader. free (suc reader))
found_none slot (Some found ∷ scanned) free =
    let differ : (found == slot) ≡ false = ne_eqb found slot (λ e. free 0 (ap Some e)) in
    rw differ (found_none slot scanned (λ reader. free (suc reader)))

not_zero : (n : ℕ) → not (n == 0) ≡ true → n ≢ 0
not_zero n e zero_is = let z = eq-eqb n 0 zero_is in let f = not-true (n == 0) e in cc

free_from : (phase : Phase) → IsFree phase → is_free phase ≡ true
free_from phase free = ⊎_elim (λ (e : phase ≡ Idle). ap is_free e) (λ (e : phase ≡ Loaded (word_of phase)). ap is_free e) free

nonzero_from : (n : ℕ) → n ≢ 0 → not (n == 0) ≡ true
nonzero_from n h = rw (ne_eqb n 0 h) refl

module _ (readers slots : ℕ) (c : State) where
  abbrev w : WriterView
  w = c.writer

  -- ---- allowed if not refused

  module _ (slot index word : ℕ) (h : refusal_of readers slots c (StoreWord slot index word) ≡ None) where
    tests : ((nat_lt slot slots && nat_lt index slot_words) ≡ true) × (may_store readers w slot index word ≡ true)
        × ((index == 0 && is_latest w slot) ≡ false) × ((index == 0 && is_announced w slot) ≡ false)
    tests = passes _ _ _ _ h

    ready : ((length w.scanned == readers && index == length w.stored) ≡ true)
        × ((if index == 0 then nat_le word longest_message else may_continue w slot word) ≡ true)
    ready = and_parts (length w.scanned == readers && index == length w.stored) (if index == 0 then nat_le word longest_message else may_continue w slot word) tests.1

    chooses : index ≡ 0 → MayChoose w slot word
    chooses first =
        let e = eq-eqb index 0 first in
        let short : nat_le word longest_message ≡ true = rw e at ready.1 in
        let not_latest : is_latest w slot ≡ false = rw e at tests.2 in
        record {
          short = leb-true word longest_message short;
          apart = λ there same.
              let shown : is_latest w slot ≡ true = and_from (not (w.last == 0)) (slot == slot_of w.last) (nonzero_from w.last there) (eq-eqb slot (slot_of w.last) same) in
              cc;
          free = unfound slot w.scanned (rw e at tests.3);
        }

    continues : 0 < index → MayContinue w slot word
    continues later =
        let e : (index == 0) ≡ false = ne_eqb index 0 (λ zero_is. absurd (omega (arith, later, zero_is))) in
        let may : may_continue w slot word ≡ true = rw e at ready.1 in
        let octets = get_or w.stored 0 0 in
        let both = and_parts (slot == w.chosen && nat_lt (length w.stored) (words_for octets)) (is_padded octets (length w.stored) word) may in
        let first = and_parts (slot == w.chosen) (nat_lt (length w.stored) (words_for octets)) both.0 in
        record {
          same = eqb-true slot w.chosen first.0;
          more = ltb-true (length w.stored) (words_for octets) first.1;
          padded = eqb-true _ 0 both.1;
        }

    store_allowed : MayStore readers slots w slot index word
    store_allowed =
        let place = and_parts (nat_lt slot slots) (nat_lt index slot_words) tests.0 in
        let turn = and_parts (length w.scanned == readers) (index == length w.stored) ready.0 in
        record {
          exists = ltb-true slot slots place.0;
          within = ltb-true index slot_words place.1;
          all = eqb-true (length w.scanned) readers turn.0;
          next = eqb-true index (length w.stored) turn.1;
          first = chooses;
          later = continues;
        }

  scan_allowed : (reader : ℕ) → refusal_of readers slots c (Scan reader) ≡ None → MayScan readers w reader
  scan_allowed reader h =
      let tests = passes (nat_lt reader readers) (may_scan w reader) false false h in
      let turn = and_parts (length w.stored == 0) (reader == length w.scanned) tests.1 in
      record { exists = ltb-true reader readers tests.0; idle = eqb-true (length w.stored) 0 turn.0; next = eqb-true reader (length w.scanned) turn.1 }

  publish_allowed : refusal_of readers slots c StoreLatest ≡ None → MayPublish w
  publish_allowed h =
      let tests = passes true (may_publish w) false false h in
      let both = and_parts (nat_lt 0 (length w.stored) && length w.stored == words_for (get_or w.stored 0 0)) (nat_lt (length w.published) most_messages) tests.1 in
      let first = and_parts (nat_lt 0 (length w.stored)) (length w.stored == words_for (get_or w.stored 0 0)) both.0 in
      record { begun = ltb-true 0 (length w.stored) first.0; whole = eqb-true (length w.stored) (words_for (get_or w.stored 0 0)) first.1; few = ltb-true (length w.published) most_messages both.1 }

  pub allowed_if : (event : CoreEvent) → refusal_of readers slots c event ≡ None → Allowed readers slots c event
  allowed_if (Scan reader) h = scan_allowed reader h
  allowed_if (StoreWord slot index word) h = store_allowed slot index word h
  allowed_if StoreLatest h = publish_allowed h
  allowed_if (LoadFirst reader) h =
      let v = view_at c.views reader in
      let tests = passes (nat_lt reader readers) (may_begin v) false false h in
      let turn = and_parts (is_free v.phase) (v.own == 0) tests.1 in
      (ltb-true reader readers tests.0, (free_is v.phase turn.0, eqb-true v.own 0 turn.1))
  allowed_if (Announce reader) h =
      let v = view_at c.views reader in
      let tests = passes (nat_lt reader readers) (has_loaded v.phase) false false h in
      (ltb-true reader readers tests.0, loaded_is v.phase tests.1)
  allowed_if (LoadSecond reader) h =
      let v = view_at c.views reader in
      let tests = passes (nat_lt reader readers) (has_announced v.phase) false false h in
      (ltb-true reader readers tests.0, announced_is v.phase tests.1)
  allowed_if (LoadWord reader index) h =
      let v = view_at c.views reader in
      let tests = passes (nat_lt reader readers && nat_lt index slot_words) (may_load_word v index) false false h in
      let place = and_parts (nat_lt reader readers) (nat_lt index slot_words) tests.0 in
      let turn = and_parts (is_holding v.phase) (nat_lt index (length (last_of v.seen))) tests.1 in
      (ltb-true reader readers place.0, ltb-true index slot_words place.1, (holding_is v.phase turn.0, ltb-true index (length (last_of v.seen)) turn.1))
  allowed_if (Clear reader) h =
      let v = view_at c.views reader in
      let tests = passes (nat_lt reader readers) (may_clear v) false false h in
      (ltb-true reader readers tests.0, not_zero v.own tests.1)

  -- ---- not refused if allowed

  passed : (exists turn latest announced : Bool) → exists ≡ true → turn ≡ true → latest ≡ false → announced ≡ false → first_refusal exists turn latest announced ≡ None
  passed exists turn latest announced a b d e = rw (a, b, d, e) refl

  store_passes : (slot index word : ℕ) → MayStore readers slots w slot index word → refusal_of readers slots c (StoreWord slot index word) ≡ None
  store_passes slot index word may =
      let place = and_from _ _ (lt-ltb slot slots may.exists) (lt-ltb index slot_words may.within) in
      let turn = and_from _ _ (eq-eqb (length w.scanned) readers may.all) (eq-eqb index (length w.stored) may.next) in
      ⊎_elim
      (λ (first : index ≡ 0).
      let chosen = may.first first in
      let e : (index == 0) ≡ true = eq-eqb index 0 first in
      let short : nat_le word longest_message ≡ true = le-leb word longest_message chosen.short in
      let ready : may_store readers w slot index word ≡ true = and_from _ _ turn (rw e short) in
      let unshown : is_latest w slot ≡ false =
      ⊎_elim
      (λ (none : w.last ≡ 0). and_left (not (w.last == 0)) (slot == slot_of w.last) (ap not (eq-eqb w.last 0 none)))
      (λ (there : w.last ≢ 0). and_right (not (w.last == 0)) (slot == slot_of w.last) (ne_eqb slot (slot_of w.last) (chosen.apart there)))
      (cases_eq w.last 0) in
      passed _ _ _ _ place ready (and_right (index == 0) (is_latest w slot) unshown) (and_right (index == 0) (is_announced w slot) (found_none slot w.scanned chosen.free)))
      (λ (later : index ≡ 0 → ⊥).
      let goes_on = may.later (omega (arith, later)) in
      let octets = get_or w.stored 0 0 in
      let e : (index == 0) ≡ false = ne_eqb index 0 later in
      let next : may_continue w slot word ≡ true =
      and_from _ _ (and_from _ _ (eq-eqb slot w.chosen goes_on.same) (lt-ltb (length w.stored) (words_for octets) goes_on.more)) (eq-eqb _ 0 goes_on.padded) in
      let ready : may_store readers w slot index word ≡ true = and_from _ _ turn (rw e next) in
      passed _ _ _ _ place ready (and_left (index == 0) (is_latest w slot) e) (and_left (index == 0) (is_announced w slot) e))
      (cases_eq index 0)

  pub passes_if : (event : CoreEvent) → Allowed readers slots c event → refusal_of readers slots c event ≡ None
  passes_if (Scan reader) may =
      passed (nat_lt reader readers) (may_scan w reader) false false (lt-ltb reader readers may.exists)
      (and_from _ _ (eq-eqb (length w.stored) 0 may.idle) (eq-eqb reader (length w.scanned) may.next)) refl refl
  passes_if (StoreWord slot index word) may = store_passes slot index word may
  passes_if StoreLatest may =
      passed true (may_publish w) false false refl
      (and_from _ _ (and_from _ _ (lt-ltb 0 (length w.stored) may.begun) (eq-eqb (length w.stored) _ may.whole)) (lt-ltb (length w.published) _ may.few)) refl refl
  passes_if (LoadFirst reader) may =
      let v = view_at c.views reader in
      passed (nat_lt reader readers) (may_begin v) false false (lt-ltb reader readers may.0) (and_from _ _ (free_from v.phase may.1.0) (eq-eqb v.own 0 may.1.1)) refl refl
  passes_if (Announce reader) may =
      let v = view_at c.views reader in
      passed (nat_lt reader readers) (has_loaded v.phase) false false (lt-ltb reader readers may.0) (ap has_loaded may.1) refl refl
  passes_if (LoadSecond reader) may =
      let v = view_at c.views reader in
      passed (nat_lt reader readers) (has_announced v.phase) false false (lt-ltb reader readers may.0) (ap has_announced may.1) refl refl
  passes_if (LoadWord reader index) may =
      let v = view_at c.views reader in
      passed (nat_lt reader readers && nat_lt index slot_words) (may_load_word v index) false false (and_from _ _ (lt-ltb reader readers may.0) (lt-ltb index slot_words may.1))
      (and_from _ _ (ap is_holding may.2.0) (lt-ltb index (length (last_of v.seen)) may.2.1)) refl refl
  passes_if (Clear reader) may =
      let v = view_at c.views reader in
      passed (nat_lt reader readers) (may_clear v) false false (lt-ltb reader readers may.0) (nonzero_from v.own may.1) refl refl
