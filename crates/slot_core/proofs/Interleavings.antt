-- The laws of a sampling port, over all lists of events.
use Rattle.std.proofs.Common.{◌≡◌, ◌≢◌, ℕ, ◌+◌, ◌-◌, ◌<◌, ◌≤◌, List, [], ◌∷◌, ◌++◌, length, get_or, set, replicate, refl, sym, ap, ◌∙◌, arith, subst, ⊎_elim}
use Rattle.std.proofs.lemmas.Bool.{cases_eq, eq-eqb, ne_eqb}
use Rattle.std.proofs.lemmas.List.{get_or-replicate, get_or-set_other, get_or-set_same, get_or_append_left, length-replicate}
use Rattle.slot_core.specs.declared.event.CoreEvent.{CoreEvent}
use Rattle.slot_core.specs.declared.event.CoreEvent.TheVariants.{Scan, StoreWord, StoreLatest, LoadFirst, Announce, LoadSecond, LoadWord, Clear}
use Rattle.slot_core.specs.declared.view.Phase.{Phase}
use Rattle.slot_core.specs.declared.view.Phase.TheVariants.{Idle, Loaded, Announced, Holding}
use Rattle.slot_core.specs.declared.view.ReaderView.{ReaderView}
use Rattle.slot_core.specs.Limits.{most_slots}
use Rattle.slot_core.specs.Words.{latest_number, slot_of, table_words}
use Rattle.slot_core.specs.Message.{IsMessage}
use Rattle.slot_core.specs.State.{State, first_writer, last_of, newcomer, opening, view_at, word_of}
use Rattle.slot_core.specs.Lawful.{IsReader, Lawful}
use Rattle.slot_core.specs.Steps.{after_event, after_all, looks_again, second_phase}
use Rattle.slot_core.specs.Allowed.{Allowed, AreAllowed, IsFree}
use Rattle.slot_core.specs.Laws.{HasMessage, HoldsWord, HoldsNewest, IsHold, IsReached, Outlasts, after_hold}
use Rattle.slot_core.proofs.Messages.{length-seen}
use Rattle.slot_core.proofs.Phases.{at_announced, at_holding}
use Rattle.slot_core.proofs.WriterSteps.{scan_keeps, slot_is_unheld, store_latest_keeps, store_word_keeps}
use Rattle.slot_core.proofs.ReaderSteps.{announce_keeps, clear_keeps, load_first_keeps, load_second_keeps}

module _ (readers slots : ℕ) where
  -- ---- the opening

  newcomer_is : (q : ℕ) → q < readers → IsReader readers slots (replicate (table_words readers slots) 0) first_writer q newcomer
  newcomer_is q low = record {
    own = get_or-replicate (table_words readers slots) (1 + q) 0 0 (omega (arith, low));
    idle = λ _. refl;
    announced = λ word e. absurd (cc);
    holding = λ word e. absurd (cc);
    seen = ([], refl);
    shows = λ word e. absurd e;
    newest = λ word e. absurd e;
    held = λ word e. absurd (cc);
    noticed = λ word e. absurd (cc);
  }

  pub opening_is_lawful : Lawful readers slots (opening readers slots)
  opening_is_lawful =
      let none : latest_number (opening readers slots).words ≡ 0 = get_or-replicate (table_words readers slots) 0 0 0 (omega arith) in
      record {
        words = length-replicate (table_words readers slots) 0;
        views = length-replicate readers newcomer;
        newest = record {
          none = λ _. none;
          shown = λ h. absurd (omega (arith, h));
          few = omega arith;
          kept = sym none;
          stands = λ h. absurd (omega (arith, h));
          messages = λ i h. absurd (omega (arith, h));
        };
        written = λ h. absurd (omega (arith, h));
        each = λ q low.
            let P : ReaderView → Type 0 = λ u. IsReader readers slots (opening readers slots).words first_writer q u in
            subst P (sym (get_or-replicate readers q newcomer newcomer low)) (newcomer_is q low);
      }

  -- ---- a list of events

  pub step_keeps : (c : State) (event : CoreEvent) → slots ≤ most_slots → Lawful readers slots c → Allowed readers slots c event → Lawful readers slots (after_event readers c event)
  step_keeps c (Scan reader) few l may = scan_keeps readers slots c l reader may
  step_keeps c (StoreWord slot index word) few l may = store_word_keeps readers slots c l slot index word may
  step_keeps c StoreLatest few l may = store_latest_keeps readers slots c l few may
  step_keeps c (LoadFirst reader) few l may = load_first_keeps readers slots c l reader may.0 may.1
  step_keeps c (Announce reader) few l may = announce_keeps readers slots c l reader may.0 may.1
  step_keeps c (LoadSecond reader) few l may = load_second_keeps readers slots c l reader may.0 may.1
  step_keeps c (LoadWord reader index) few l may = l
  step_keeps c (Clear reader) few l may = clear_keeps readers slots c l reader may.0

  pub events_keep : (c : State) (events : List CoreEvent) → slots ≤ most_slots → Lawful readers slots c → AreAllowed readers slots c events → Lawful readers slots (after_all readers c events)
  events_keep c [] few l may = l
  events_keep c (event ∷ events) few l may = events_keep (after_event readers c event) events few (step_keeps c event few l may.0) may.1

  pub one_more : (c : State) (events : List CoreEvent) (event : CoreEvent) → AreAllowed readers slots c events → Allowed readers slots (after_all readers c events) event
      → AreAllowed readers slots c (events ++ event ∷ []) × (after_all readers c (events ++ event ∷ []) ≡ after_event readers (after_all readers c events) event)
  one_more c [] event may here = ((here, tt), refl)
  one_more c (first ∷ events) event may here =
      let rest = one_more (after_event readers c first) events event may.1 here in
      ((may.0, rest.0), rest.1)

  pub reached_is_lawful : (c : State) → slots ≤ most_slots → IsReached readers slots c → Lawful readers slots c
  reached_is_lawful c few reached =
      subst (λ (s : State). Lawful readers slots s) reached.1.1 (events_keep (opening readers slots) reached.0 few opening_is_lawful reached.1.0)

  -- ---- what is held

  pub held_is_not_written : (c : State) (reader word slot index stored : ℕ) → Lawful readers slots c → HoldsWord readers c reader word
      → Allowed readers slots c (StoreWord slot index stored) → slot ≢ slot_of word
  held_is_not_written c reader word slot index stored l holds may = slot_is_unheld readers slots c l slot index stored may reader word holds.0 holds.1

  -- a message that was seen is one that was published
  last_seen_is_message : (c : State) (reader : ℕ) → Lawful readers slots c → reader < readers → 0 < length (view_at c.views reader).seen → IsMessage (last_of (view_at c.views reader).seen)
  last_seen_is_message c reader l within some_seen =
      let is = l.each reader within in
      let seen = (view_at c.views reader).seen in
      let place = length seen - 1 in
      let e : get_or c.writer.published place [] ≡ last_of seen =
      rw is.seen.1 (get_or_append_left seen is.seen.0 [] place (omega (arith, some_seen))) in
      subst IsMessage e (l.newest.messages place (omega (arith, some_seen, length-seen c.writer.published seen is.seen)))

  -- what a reader holds is a message, and stands in its slot
  pub held_is_whole : (c : State) (reader word : ℕ) → Lawful readers slots c → HoldsWord readers c reader word → HasMessage readers c word (last_of (view_at c.views reader).seen)
  held_is_whole c reader word l holds =
      let is = l.each reader holds.0 in
      let shows = is.shows word (at_holding (view_at c.views reader).phase word holds.1) in
      (last_seen_is_message c reader l holds.0 shows.0, is.held word holds.1)

  -- any other step of its own is refused to a reader that holds, and the others change nothing of it
  free_is_not_holding : (phase : Phase) (word : ℕ) → IsFree phase → phase ≡ Holding word → ⊥
  free_is_not_holding phase word free holds =
      ⊎_elim (λ (idle : phase ≡ Idle). cc) (λ (at : phase ≡ Loaded (word_of phase)). cc) free

  elsewhere : (views : List ReaderView) (reader other : ℕ) (v : ReaderView) → (other ≡ reader → ⊥) → view_at (set views other v) reader ≡ view_at views reader
  elsewhere views reader other v differ = get_or-set_other views other reader v newcomer (λ e. differ (sym e))

  hold_outlasts : (c : State) (reader word : ℕ) (event : CoreEvent) → HoldsWord readers c reader word → Allowed readers slots c event → event ≢ Clear reader
      → view_at (after_event readers c event).views reader ≡ view_at c.views reader
  hold_outlasts c reader word (Scan q) holds may other = refl
  hold_outlasts c reader word (StoreWord slot index stored) holds may other = refl
  hold_outlasts c reader word StoreLatest holds may other = refl
  hold_outlasts c reader word (LoadFirst q) holds may other = elsewhere c.views reader q _ (λ e.
      let P : ℕ → Type 0 = λ p. IsFree (view_at c.views p).phase in
      free_is_not_holding (view_at c.views reader).phase word (subst P e may.1.0) holds.1)
  hold_outlasts c reader word (Announce q) holds may other = elsewhere c.views reader q _ (λ e.
      let P : ℕ → Type 0 = λ p. (view_at c.views p).phase ≡ Loaded (word_of (view_at c.views p).phase) in
      let at = subst P e may.1 in cc)
  hold_outlasts c reader word (LoadSecond q) holds may other = elsewhere c.views reader q _ (λ e.
      let P : ℕ → Type 0 = λ p. (view_at c.views p).phase ≡ Announced (word_of (view_at c.views p).phase) in
      let at = subst P e may.1 in cc)
  hold_outlasts c reader word (LoadWord q index) holds may other = refl
  hold_outlasts c reader word (Clear q) holds may other = elsewhere c.views reader q _ (λ e. other (ap Clear e))

  pub holds_outlast : (c : State) (reader word : ℕ) (events : List CoreEvent) → HoldsWord readers c reader word → AreAllowed readers slots c events → Outlasts reader events
      → view_at (after_all readers c events).views reader ≡ view_at c.views reader
  holds_outlast c reader word [] holds may lasts = refl
  holds_outlast c reader word (event ∷ events) holds may lasts =
      let e = hold_outlasts c reader word event holds may.0 lasts.0 in
      holds_outlast (after_event readers c event) reader word events (holds.0, ap (λ (v : ReaderView). v.phase) e ∙ holds.1) may.1 lasts.1 ∙ e

  pub held_stays_whole : (c : State) (reader word : ℕ) (events : List CoreEvent) → slots ≤ most_slots → Lawful readers slots c → HoldsWord readers c reader word
      → AreAllowed readers slots c events → Outlasts reader events
      → HasMessage readers (after_all readers c events) word (last_of (view_at c.views reader).seen)
  held_stays_whole c reader word events few l holds may lasts =
      let e = holds_outlast c reader word events holds may lasts in
      let c' : State = after_all readers c events in
      let P : ReaderView → Type 0 = λ v. HasMessage readers c' word (last_of v.seen) in
      subst P e (held_is_whole c' reader word (events_keep c events few l may) (holds.0, ap (λ (v : ReaderView). v.phase) e ∙ holds.1))

  -- ---- a second look

  holding_is_again : (at found word : ℕ) → second_phase at found ≡ Holding word → (found ≡ at) × (found ≡ word)
  holding_is_again at found word e =
      ⊎_elim
      (λ (again : found ≡ at).
      let holds : Holding at ≡ Holding word = rw (eq-eqb found at again) at e in
      (again, cc))
      (λ (differ : found ≢ at).
      let loaded : Loaded found ≡ Holding word = rw (ne_eqb found at differ) at e in
      absurd (cc))
      (cases_eq found at)

  pub held_is_newest : (c : State) (reader word : ℕ) → Lawful readers slots c → Allowed readers slots c (LoadSecond reader)
      → HoldsWord readers (after_event readers c (LoadSecond reader)) reader word
      → HoldsNewest readers slots (after_event readers c (LoadSecond reader)) (view_at (after_event readers c (LoadSecond reader)).views reader) word
  held_is_newest c reader word l may holds =
      let c' = after_event readers c (LoadSecond reader) in
      let v = view_at c.views reader in
      let found = latest_number c.words in
      let there = get_or-set_same c.views reader (looks_again v found c.writer.published) newcomer (omega (arith, may.0, l.views)) in
      let again = holding_is_again (word_of v.phase) found word (sym (ap (λ (u : ReaderView). u.phase) there) ∙ holds.1) in
      let is = l.each reader may.0 in
      let shows = is.shows (word_of v.phase) (at_announced v.phase (word_of v.phase) may.1) in
      let some_published : 0 < length c.writer.published = omega (arith, shows.0, length-seen c.writer.published v.seen is.seen) in
      record {
        newest = sym again.1;
        seen = ap (λ (u : ReaderView). u.seen) there;
        number = rw again.1 at (l.newest.shown some_published);
        message = (l.newest.messages _ (omega (arith, some_published)), rw again.1 at (l.newest.stands some_published));
      }

  -- if it finds another word, a newer message was published
  pub failed_look_is_later : (c : State) (reader : ℕ) → Lawful readers slots c → Allowed readers slots c (LoadSecond reader)
      → latest_number c.words ≢ word_of (view_at c.views reader).phase → length (view_at c.views reader).seen < length c.writer.published
  failed_look_is_later c reader l may differ =
      let v = view_at c.views reader in
      let is = l.each reader may.0 in
      ⊎_elim
      (λ (all : length v.seen ≡ length c.writer.published). absurd (differ (sym (is.newest (word_of v.phase) (at_announced v.phase (word_of v.phase) may.1) all))))
      (λ (less : length v.seen ≡ length c.writer.published → ⊥). omega (arith, less, length-seen c.writer.published v.seen is.seen))
      (cases_eq (length v.seen) (length c.writer.published))

-- ---- a hold, from the opening on

module _ (readers slots : ℕ) (c : State) (reader word : ℕ) (events : List CoreEvent) (few : slots ≤ most_slots) (hold : IsHold readers slots c reader word events) where
  abbrev looked : State
  looked = after_event readers c (LoadSecond reader)

  lawful : Lawful readers slots looked
  lawful = step_keeps readers slots c (LoadSecond reader) few (reached_is_lawful readers slots c few hold.reached) hold.looks

  pub hold_is_newest : HoldsNewest readers slots looked (view_at looked.views reader) word
  hold_is_newest = held_is_newest readers slots c reader word (reached_is_lawful readers slots c few hold.reached) hold.looks hold.holds

  pub hold_is_whole : HasMessage readers (after_hold readers c reader events) word (last_of c.writer.published)
  hold_is_whole =
      let P : List (List ℕ) → Type 0 = λ seen. HasMessage readers (after_hold readers c reader events) word (last_of seen) in
      subst P hold_is_newest.seen (held_stays_whole readers slots looked reader word events few lawful hold.holds hold.allowed hold.outlasts)

  pub hold_is_not_written : (slot index stored : ℕ) → Allowed readers slots (after_hold readers c reader events) (StoreWord slot index stored) → slot ≢ slot_of word
  hold_is_not_written slot index stored may =
      let still = holds_outlast readers slots looked reader word events hold.holds hold.allowed hold.outlasts in
      held_is_not_written readers slots (after_hold readers c reader events) reader word slot index stored
      (events_keep readers slots looked events few lawful hold.allowed) (hold.holds.0, ap (λ (v : ReaderView). v.phase) still ∙ hold.holds.1) may
