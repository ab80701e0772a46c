-- A reader's steps keep a state lawful.
use Rattle.std.proofs.Common.{◌≡◌, ◌≢◌, ℕ, ◌+◌, ◌<◌, List, length, set, refl, sym, ap, ◌∙◌, arith, subst, inr, ⊎_elim}
use Rattle.std.proofs.lemmas.Bool.{cases_eq, eq-eqb, ne_eqb}
use Rattle.std.proofs.lemmas.List.{get_or-set_other, get_or-set_same, length-set, set-get_or}
use Rattle.slot_core.specs.declared.view.Phase.TheVariants.{Loaded}
use Rattle.slot_core.specs.declared.view.ReaderView.{ReaderView}
use Rattle.slot_core.specs.declared.view.WriterView.{WriterView}
use Rattle.slot_core.specs.Words.{latest_number, announcement, slot_of, Begins, ShowsWord}
use Rattle.slot_core.specs.State.{State, HasWord, last_of, newcomer, view_at, word_of}
use Rattle.slot_core.specs.Lawful.{IsReader, Lawful}
use Rattle.slot_core.specs.Steps.{after_announce, after_clear, after_load_first, after_load_second, announces, begins, clears, looks_again, with_announcement, with_view}
use Rattle.slot_core.specs.Allowed.{MayAnnounce, MayBegin, MayLookAgain}
use Rattle.slot_core.proofs.Places.{announcement_stays, begins_above, latest_stays}
use Rattle.slot_core.proofs.Messages.{length-seen, seen_all}
use Rattle.slot_core.proofs.Phases.{at_announced, at_loaded}

module _ (readers slots : ℕ) (c : State) (l : Lawful readers slots c) (reader : ℕ) (within : reader < readers) where
  abbrev w : WriterView
  w = c.writer

  abbrev v : ReaderView
  v = view_at c.views reader

  is : IsReader readers slots c.words w reader v
  is = l.each reader within

  -- ---- any change of what one reader knows and announces

  module _ (v' : ReaderView) where
    abbrev words' : List ℕ
    words' = set c.words (1 + reader) v'.own

    same : latest_number words' ≡ latest_number c.words
    same = latest_stays readers c.words v'.own (1 + reader) (omega arith)

    others : (q : ℕ) → q < readers → q ≢ reader → IsReader readers slots words' w q (view_at c.views q)
    others q low differ =
        let was = l.each q low in
        record {
          own = announcement_stays readers c.words v'.own (1 + reader) q (λ e. differ (omega (arith, e))) ∙ was.own;
          idle = was.idle;
          announced = was.announced;
          holding = was.holding;
          seen = was.seen;
          shows = was.shows;
          newest = λ at has h. was.newest at has h ∙ sym same;
          held = λ at holds. begins_above readers c.words v'.own (1 + reader) _ _ (omega (arith, within)) (was.held at holds);
          noticed = λ at holds h. rw same (was.noticed at holds h);
        }

    pub reader_changes : IsReader readers slots words' w reader v' → Lawful readers slots (with_announcement c reader v')
    reader_changes now = record {
      words = length-set c.words (1 + reader) v'.own ∙ l.words;
      views = length-set c.views reader v' ∙ l.views;
      newest = record {
        none = λ h. same ∙ l.newest.none h;
        shown = λ h. rw same (l.newest.shown h);
        few = l.newest.few;
        kept = l.newest.kept ∙ sym same;
        stands = λ h. rw same (begins_above readers c.words v'.own (1 + reader) _ _ (omega (arith, within)) (l.newest.stands h));
        messages = l.newest.messages;
      };
      written = λ h.
          let written = l.written h in
          record {
            all = written.all;
            within = written.within;
            apart = λ some_published. rw same (written.apart some_published);
            free = written.free;
            begun = begins_above readers c.words v'.own (1 + reader) _ _ (omega (arith, within)) written.begun;
            start = written.start;
          };
      each = λ q low.
          ⊎_elim
          (λ (here : q ≡ reader).
          let P : ℕ → Type 0 = λ p. IsReader readers slots words' w p (view_at (set c.views reader v') p) in
          let there : view_at (set c.views reader v') reader ≡ v' = get_or-set_same c.views reader v' newcomer (omega (arith, within, l.views)) in
          let Q : ReaderView → Type 0 = λ u. IsReader readers slots words' w reader u in
          subst P (sym here) (subst Q (sym there) now))
          (λ (differ : q ≢ reader).
          let there : view_at (set c.views reader v') q ≡ view_at c.views q = get_or-set_other c.views reader q v' newcomer differ in
          let Q : ReaderView → Type 0 = λ u. IsReader readers slots words' w q u in
          subst Q (sym there) (others q low differ))
          (cases_eq q reader);
    }

    own_shown : announcement words' reader ≡ v'.own
    own_shown = get_or-set_same c.words (1 + reader) v'.own 0 (omega (arith, within, l.words))

  -- if the announcement stays
  pub view_changes : (v' : ReaderView) → v'.own ≡ v.own → IsReader readers slots c.words w reader v' → Lawful readers slots (with_view c reader v')
  view_changes v' e now =
      let stay : set c.words (1 + reader) v'.own ≡ c.words =
      rw (e ∙ sym is.own) (set-get_or c.words (1 + reader) 0) in
      let P : List ℕ → Type 0 = λ ws. Lawful readers slots (record { words = ws; writer = w; views = set c.views reader v' }) in
      let Q : List ℕ → Type 0 = λ ws. IsReader readers slots ws w reader v' in
      subst P stay (reader_changes v' (subst Q (sym stay) now))

  -- ---- stores of the announcement

  pub announce_keeps : MayAnnounce v → Lawful readers slots (after_announce c reader)
  announce_keeps may =
      let v' = announces v in
      let has = at_loaded v.phase (word_of v.phase) may in
      reader_changes v' (record {
        own = own_shown v';
        idle = λ e. absurd (cc);
        announced = λ word e. cc;
        holding = λ word e. absurd (cc);
        seen = is.seen;
        shows = λ word e. is.shows word (subst (λ (at : ℕ). HasWord v.phase at) e has);
        newest = λ word e h. is.newest word (subst (λ (at : ℕ). HasWord v.phase at) e has) h ∙ sym (same v');
        held = λ word e. absurd (cc);
        noticed = λ word e. absurd (cc);
      })

  pub clear_keeps : Lawful readers slots (after_clear c reader)
  clear_keeps =
      let v' = clears v in
      reader_changes v' (record {
        own = own_shown v';
        idle = λ _. refl;
        announced = λ word e. absurd (cc);
        holding = λ word e. absurd (cc);
        seen = is.seen;
        shows = λ word e. absurd e;
        newest = λ word e. absurd e;
        held = λ word e. absurd (cc);
        noticed = λ word e. absurd (cc);
      })

  -- ---- loads of `latest`

  -- the reader has loaded it, and seen all that is published
  loaded : (own : ℕ) → own ≡ v.own → 0 < length w.published → IsReader readers slots c.words w reader (record { phase = Loaded (latest_number c.words); own = own; seen = w.published })
  loaded own e some_published = record {
    own = is.own ∙ sym e;
    idle = λ e. absurd (cc);
    announced = λ word e. absurd (cc);
    holding = λ word e. absurd (cc);
    seen = seen_all w.published;
    shows = λ word e. (some_published, subst (λ (at : ℕ). ShowsWord slots at (length w.published)) e (l.newest.shown some_published));
    newest = λ word e _. sym e;
    held = λ word e. absurd (cc);
    noticed = λ word e. absurd (cc);
  }

  pub load_first_keeps : MayBegin v → Lawful readers slots (after_load_first c reader)
  load_first_keeps may =
      let found = latest_number c.words in
      ⊎_elim
      (λ (none : found ≡ 0).
      view_changes (begins v found w.published) refl (rw (eq-eqb found 0 none) (record {
        own = is.own;
        idle = λ _. may.1;
        announced = λ word e. absurd (cc);
        holding = λ word e. absurd (cc);
        seen = seen_all w.published;
        shows = λ word e. absurd e;
        newest = λ word e. absurd e;
        held = λ word e. absurd (cc);
        noticed = λ word e. absurd (cc);
      })))
      (λ (some_found : found ≢ 0).
      let some_published : 0 < length w.published = ⊎_elim
      (λ (none : length w.published ≡ 0). absurd (some_found (l.newest.none none)))
      (λ (some_more : length w.published ≢ 0). omega (arith, some_more))
      (cases_eq (length w.published) 0) in
      view_changes (begins v found w.published) refl (rw (ne_eqb found 0 some_found) (loaded v.own refl some_published)))
      (cases_eq found 0)

  pub load_second_keeps : MayLookAgain v → Lawful readers slots (after_load_second c reader)
  load_second_keeps may =
      let found = latest_number c.words in
      let at = word_of v.phase in
      let shows = is.shows at (at_announced v.phase at may) in
      let some_published : 0 < length w.published = omega (arith, shows.0, length-seen w.published v.seen is.seen) in
      ⊎_elim
      (λ (again : found ≡ at).
      view_changes (looks_again v found w.published) refl (rw (eq-eqb found at again) (record {
        own = is.own;
        idle = λ e. absurd (cc);
        announced = λ word e. absurd (cc);
        holding = λ word e. is.announced at may ∙ (cc);
        seen = seen_all w.published;
        shows = λ word e. (some_published, subst (λ (x : ℕ). ShowsWord slots x (length w.published)) (again ∙ e) (l.newest.shown some_published));
        newest = λ word e _. sym (again ∙ e);
        held = λ word e.
            let is_latest : latest_number c.words ≡ word = cc in
            subst (λ (x : ℕ). Begins readers c.words (slot_of x) (last_of w.published)) is_latest (l.newest.stands some_published);
        noticed = λ word e _.
            let is_latest : word ≡ latest_number c.words = cc in
            inr (ap slot_of is_latest);
      })))
      (λ (differ : found ≢ at).
      view_changes (looks_again v found w.published) refl (rw (ne_eqb found at differ) (loaded v.own refl some_published)))
      (cases_eq found at)
