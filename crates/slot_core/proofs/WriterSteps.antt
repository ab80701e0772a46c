-- The writer's steps keep a state lawful.
use Rattle.std.proofs.Common.{◌≡◌, ◌≢◌, ℕ, ◌+◌, ◌<◌, ◌≤◌, [], ◌∷◌, ◌++◌, length, get_or, set, None, Some, refl, sym, ap, ◌∙◌, arith, inl, ⊎_elim}
use Rattle.std.proofs.lemmas.Bool.{cases_eq, cases_lt}
use Rattle.std.proofs.lemmas.List.{get_or-set_other, get_or-set_same, get_or_append_left, get_or_push, length-set, length_push, nil_from_length}
use Rattle.slot_core.specs.declared.view.Phase.TheVariants.{Holding}
use Rattle.slot_core.specs.declared.view.WriterView.{WriterView}
use Rattle.slot_core.specs.Limits.{most_slots}
use Rattle.slot_core.specs.Words.{latest_number, announcement, place_of_slot_word, slot_of, slot_shown}
use Rattle.slot_core.specs.Message.{IsMessage, IsStart}
use Rattle.slot_core.specs.State.{State, view_at}
use Rattle.slot_core.specs.Lawful.{Lawful}
use Rattle.slot_core.specs.Steps.{after_scan, after_store_latest, after_store_word, word_to_show}
use Rattle.slot_core.specs.Allowed.{MayPublish, MayScan, MayStore}
use Rattle.slot_core.proofs.Places.{announcement_stays, begins_above, begins_elsewhere, has_word, latest_stays, shown_is, slot_of-word_for}
use Rattle.slot_core.proofs.Messages.{each_more, last_of-push, length-seen, start_first, start_more, starts_with_more}
use Rattle.slot_core.proofs.Phases.{at_holding}

module _ (readers slots : ℕ) (c : State) (l : Lawful readers slots c) where
  abbrev w : WriterView
  w = c.writer

  -- ---- a scan

  -- the slot of a holding reader is found
  scan_notices : (reader q word : ℕ) → MayScan readers w reader → q < readers → (view_at c.views q).phase ≡ Holding word
      → q < length (w.scanned ++ slot_shown (announcement c.words reader) ∷ [])
      → length w.scanned ≤ q
      → get_or (w.scanned ++ slot_shown (announcement c.words reader) ∷ []) q None ≡ Some (slot_of word)
  scan_notices reader q word may within holds h high =
      let is = l.each q within in
      let x = slot_shown (announcement c.words reader) in
      let here : reader ≡ q = omega (arith, length_push w.scanned x, h, high, may.next) in
      let found : announcement c.words reader ≡ word = ap (announcement c.words) here ∙ is.own ∙ is.holding word holds in
      let shows = is.shows word (at_holding (view_at c.views q).phase word holds) in
      let has = has_word slots word _ shows.1 shows.0 in
      get_or_push w.scanned x None q (sym may.next ∙ here) ∙ ap slot_shown found ∙ shown_is word has

  pub scan_keeps : (reader : ℕ) → MayScan readers w reader → Lawful readers slots (after_scan c reader)
  scan_keeps reader may = record {
    words = l.words;
    views = l.views;
    newest = record { none = l.newest.none; shown = l.newest.shown; few = l.newest.few; kept = l.newest.kept; stands = l.newest.stands; messages = l.newest.messages };
    written = λ h. absurd (omega (arith, may.idle, h));
    each = λ q within.
        let is = l.each q within in
        record {
          own = is.own;
          idle = is.idle;
          announced = is.announced;
          holding = is.holding;
          seen = is.seen;
          shows = is.shows;
          newest = is.newest;
          held = is.held;
          noticed = λ word holds h.
              ⊎_elim
              (λ (low : q < length w.scanned). rw (get_or_append_left w.scanned (slot_shown (announcement c.words reader) ∷ []) None q low) (is.noticed word holds low))
              (λ (high : length w.scanned ≤ q). inl (scan_notices reader q word may within holds h high))
              (cases_lt q (length w.scanned));
        };
  }

  -- ---- a word of a message

  module _ (slot index word : ℕ) (may : MayStore readers slots w slot index word) where
    abbrev place : ℕ
    place = place_of_slot_word readers slot index

    -- the slot isn't the one in `latest`
    pub slot_is_apart : 0 < length w.published → slot ≢ slot_of (latest_number c.words)
    slot_is_apart some_published =
        ⊎_elim
        (λ (first : index ≡ 0).
        let has = has_word slots (latest_number c.words) _ (l.newest.shown some_published) some_published in
        let there : w.last ≢ 0 = λ e. absurd (omega (arith, e, has, l.newest.kept)) in
        λ e. (may.first first).apart there (e ∙ ap slot_of (sym l.newest.kept)))
        (λ (later : index ≡ 0 → ⊥).
        let more : 0 < index = omega (arith, later) in
        let begun : 0 < length w.stored = omega (arith, more, may.next) in
        λ e. (l.written begun).apart some_published (sym (may.later more).same ∙ e))
        (cases_eq index 0)

    -- it wasn't found announced
    pub slot_is_free : (reader : ℕ) → get_or w.scanned reader None ≢ Some slot
    slot_is_free reader =
        ⊎_elim
        (λ (first : index ≡ 0). (may.first first).free reader)
        (λ (later : index ≡ 0 → ⊥).
        let more : 0 < index = omega (arith, later) in
        let begun : 0 < length w.stored = omega (arith, more, may.next) in
        λ e. (l.written begun).free reader (e ∙ ap Some (may.later more).same))
        (cases_eq index 0)

    -- so no reader holds it
    pub slot_is_unheld : (reader held : ℕ) → reader < readers → (view_at c.views reader).phase ≡ Holding held → slot ≢ slot_of held
    slot_is_unheld reader held within holds e =
        let is = l.each reader within in
        let shows = is.shows held (at_holding (view_at c.views reader).phase held holds) in
        let some_published : 0 < length w.published = omega (arith, shows.0, length-seen w.published (view_at c.views reader).seen is.seen) in
        ⊎_elim
        (λ (found : get_or w.scanned reader None ≡ Some (slot_of held)). slot_is_free reader (found ∙ ap Some (sym e)))
        (λ (newest : slot_of held ≡ slot_of (latest_number c.words)). slot_is_apart some_published (e ∙ newest))
        (is.noticed held holds (omega (arith, within, may.all)))

    -- the words stored in the slot so far, and this one
    slot_has : (i : ℕ) → i < length (w.stored ++ word ∷ []) → get_or (set c.words place word) (place_of_slot_word readers slot i) 0 ≡ get_or (w.stored ++ word ∷ []) i 0
    slot_has = each_more (λ i x. get_or (set c.words place word) (place_of_slot_word readers slot i) 0 ≡ x) w.stored word 0
        (λ i h.
        let more : 0 < index = omega (arith, h, may.next) in
        let begun : 0 < length w.stored = omega (arith, more, may.next) in
        let written = l.written begun in
        let old : get_or c.words (place_of_slot_word readers slot i) 0 ≡ get_or w.stored i 0 = rw (may.later more).same (written.begun.1 i h) in
        let differ : place_of_slot_word readers slot i ≢ place = λ e. absurd (omega (arith, e, h, may.next)) in
        get_or-set_other c.words place (place_of_slot_word readers slot i) word 0 differ ∙ old)
        (rw (← may.next) (get_or-set_same c.words place word 0 (omega (arith, l.words, may.exists, may.within))))

    stored_starts : IsStart (w.stored ++ word ∷ [])
    stored_starts =
        ⊎_elim
        (λ (first : index ≡ 0).
        let none : w.stored ≡ [] = nil_from_length w.stored (sym may.next ∙ first) in
        rw none (start_first word (may.first first).short))
        (λ (later : index ≡ 0 → ⊥).
        let more : 0 < index = omega (arith, later) in
        let begun : 0 < length w.stored = omega (arith, more, may.next) in
        start_more w.stored word (l.written begun).start (may.later more).more (may.later more).padded)
        (cases_eq index 0)

    pub store_word_keeps : Lawful readers slots (after_store_word readers c slot index word)
    store_word_keeps =
        let same : latest_number (set c.words place word) ≡ latest_number c.words = latest_stays readers c.words word place (omega arith) in
        record {
          words = length-set c.words place word ∙ l.words;
          views = l.views;
          newest = record {
            none = λ h. same ∙ l.newest.none h;
            shown = λ h. rw same (l.newest.shown h);
            few = l.newest.few;
            kept = l.newest.kept ∙ sym same;
            stands = λ h. rw same (begins_elsewhere readers c.words word slot index _ _ (slot_is_apart h) may.within (l.newest.stands h));
            messages = l.newest.messages;
          };
          written = λ _. record {
            all = may.all;
            within = may.exists;
            apart = λ h. rw same (slot_is_apart h);
            free = slot_is_free;
            begun = (omega (arith, length_push w.stored word, may.next, may.within), slot_has);
            start = stored_starts;
          };
          each = λ q within.
              let is = l.each q within in
              record {
                own = announcement_stays readers c.words word place q (λ e. absurd (omega (arith, e, within))) ∙ is.own;
                idle = is.idle;
                announced = is.announced;
                holding = is.holding;
                seen = is.seen;
                shows = is.shows;
                newest = λ at has h. is.newest at has h ∙ sym same;
                held = λ at holds. begins_elsewhere readers c.words word slot index _ _ (slot_is_unheld q at within holds) may.within (is.held at holds);
                noticed = λ at holds h. rw same (is.noticed at holds h);
              };
        }

  -- ---- a publication

  module _ (few_slots : slots ≤ most_slots) (may : MayPublish w) where
    pub store_latest_keeps : Lawful readers slots (after_store_latest c)
    store_latest_keeps =
        let x = word_to_show w in
        let written = l.written may.begun in
        let n : length (w.published ++ w.stored ∷ []) ≡ length w.published + 1 = length_push w.published w.stored in
        let shown : latest_number (set c.words 0 x) ≡ x = get_or-set_same c.words 0 x 0 (omega (arith, l.words)) in
        let slot : slot_of x ≡ w.chosen = slot_of-word_for (length w.published + 1) w.chosen (omega (arith, few_slots, written.within)) in
        let whole : IsMessage w.stored = record { start = written.start; whole = may.whole } in
        record {
          words = length-set c.words 0 x ∙ l.words;
          views = l.views;
          newest = record {
            none = λ h. absurd (omega (arith, n, h));
            shown = λ _. rw (shown, n, slot) (refl, written.within);
            few = omega (arith, n, may.few);
            kept = sym shown;
            stands = λ _. rw (shown, slot, last_of-push w.published w.stored) (begins_above readers c.words x 0 w.chosen w.stored (omega arith) written.begun);
            messages = each_more (λ _ m. IsMessage m) w.published w.stored [] l.newest.messages whole;
          };
          written = λ h. absurd (omega (arith, h));
          each = λ q within.
              let is = l.each q within in
              record {
                own = announcement_stays readers c.words x 0 q (λ e. absurd (omega (arith, e))) ∙ is.own;
                idle = is.idle;
                announced = is.announced;
                holding = is.holding;
                seen = starts_with_more w.published (view_at c.views q).seen w.stored is.seen;
                shows = is.shows;
                newest = λ at has h. absurd (omega (arith, n, h, length-seen w.published (view_at c.views q).seen is.seen));
                held = λ at holds. begins_above readers c.words x 0 _ _ (omega arith) (is.held at holds);
                noticed = λ at holds h. absurd (omega (arith, h));
              };
        }
