-- The state that a core's fields stand for, after a change of the fields.
use Rattle.std.proofs.Common.{◌≡◌, ℕ, ◌+◌, ◌<◌, List, [], ◌∷◌, ◌++◌, get_or, map, set, take, refl, sym, ap, ◌∙◌, arith}
use Rattle.std.specs.List.{All}
use Rattle.std.proofs.lemmas.List.{get_or-map, get_or-set_other, get_or-set_same, map-set, take-append-le}
use Rattle.std.proofs.lemmas.List.Elements.{All-head, All-tail}
use Rattle.slot_core.specs.declared.machine.Core.TheInside.{Inside}
use Rattle.slot_core.specs.declared.reader.Reader.{Reader}
use Rattle.slot_core.specs.declared.view.Phase.TheVariants.{Idle}
use Rattle.slot_core.specs.declared.view.ReaderView.{ReaderView}
use Rattle.slot_core.specs.Limits.{port_readers}
use Rattle.slot_core.specs.State.{newcomer, view_at}
use Rattle.slot_core.specs.Steps.{after_announce, after_clear, after_load_first, after_load_second, after_store_latest, announces, begins, clears, looks_again, with_announcement, with_view, word_to_show}
use Rattle.slot_core.specs.Stored.{HasSeen, IsStored, state_of, view_of, writer_inside}

-- a reader that has loaded nothing
abbrev pub idle : Reader
idle = record { phase = Idle; own = 0; seen = 0 }

-- what is seen of a list stays if the list grows
pub views_stay : (published : List (List ℕ)) (message : List ℕ) (readers : List Reader) → All (HasSeen published) readers
    → map (view_of (published ++ message ∷ [])) readers ≡ map (view_of published) readers
views_stay published message [] seen = refl
views_stay published message (reader ∷ readers) seen =
    let first : take reader.seen (published ++ message ∷ []) ≡ take reader.seen published =
    take-append-le reader.seen published (message ∷ []) (All-head (HasSeen published) reader readers seen) in
    rw (first, views_stay published message readers (All-tail (HasSeen published) reader readers seen)) refl

module _ (f : Inside) (stored : IsStored f) (reader : ℕ) (within : reader < port_readers) where
  abbrev published : List (List ℕ)
  published = f.published.items

  abbrev before : Reader
  before = get_or f.readers reader idle

  view_is : view_at (state_of f).views reader ≡ view_of published before
  view_is = get_or-map (view_of published) f.readers reader idle newcomer (omega (arith, within, stored.readers))

  -- ---- one reader changes

  view_set : (now : Reader) (v : ReaderView) → view_of published now ≡ v
      → state_of (record f { readers = set f.readers reader now }) ≡ with_view (state_of f) reader v
  view_set now v e =
      ap (λ (views : List ReaderView). record (state_of f) { views = views })
      (map-set (view_of published) f.readers reader now ∙ ap (λ (u : ReaderView). set (map (view_of published) f.readers) reader u) e)

  announcement_set : (now : Reader) (v : ReaderView) → view_of published now ≡ v
      → state_of (record f { words = set f.words (1 + reader) v.own; readers = set f.readers reader now }) ≡ with_announcement (state_of f) reader v
  announcement_set now v e =
      let same : get_or (set f.words (1 + reader) v.own) 0 0 ≡ get_or f.words 0 0 =
      get_or-set_other f.words (1 + reader) 0 v.own 0 (λ e. absurd (omega (arith, e))) in
      rw (same, map-set (view_of published) f.readers reader now, e) refl

  -- ---- each step of a reader, which makes `now` of it

  module _ (now : Reader) where
    pub load_first_is : view_of published now ≡ begins (view_of published before) (get_or f.words 0 0) published
        → state_of (record f { readers = set f.readers reader now }) ≡ after_load_first (state_of f) reader
    load_first_is e =
        view_set now (begins (view_at (state_of f).views reader) (get_or f.words 0 0) published)
        (e ∙ ap (λ (v : ReaderView). begins v (get_or f.words 0 0) published) (sym view_is))

    pub load_second_is : view_of published now ≡ looks_again (view_of published before) (get_or f.words 0 0) published
        → state_of (record f { readers = set f.readers reader now }) ≡ after_load_second (state_of f) reader
    load_second_is e =
        view_set now (looks_again (view_at (state_of f).views reader) (get_or f.words 0 0) published)
        (e ∙ ap (λ (v : ReaderView). looks_again v (get_or f.words 0 0) published) (sym view_is))

    pub announce_is : view_of published now ≡ announces (view_of published before)
        → state_of (record f { words = set f.words (1 + reader) now.own; readers = set f.readers reader now }) ≡ after_announce (state_of f) reader
    announce_is e =
        announcement_set now (view_of published now) refl
        ∙ ap (λ (v : ReaderView). with_announcement (state_of f) reader v) (e ∙ ap announces (sym view_is))

    pub clear_is : view_of published now ≡ clears (view_of published before)
        → state_of (record f { words = set f.words (1 + reader) now.own; readers = set f.readers reader now }) ≡ after_clear (state_of f) reader
    clear_is e =
        announcement_set now (view_of published now) refl
        ∙ ap (λ (v : ReaderView). with_announcement (state_of f) reader v) (e ∙ ap clears (sym view_is))

-- ---- a publication

pub publish_is : (f g : Inside) → IsStored f → g.words ≡ set f.words 0 (word_to_show (writer_inside f)) → g.scanned.items ≡ [] → g.chosen ≡ f.chosen → g.stored.items ≡ []
    → g.published.items ≡ f.published.items ++ f.stored.items ∷ [] → g.readers ≡ f.readers → state_of g ≡ after_store_latest (state_of f)
publish_is f g stored words scanned chosen none items readers =
    let x = word_to_show (writer_inside f) in
    let shown : get_or (set f.words 0 x) 0 0 ≡ x = get_or-set_same f.words 0 x 0 (omega (arith, stored.words)) in
    rw (words, scanned, chosen, none, items, readers, shown, views_stay f.published.items f.stored.items f.readers stored.seen) refl
