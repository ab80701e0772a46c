-- What each step of the writer and of a reader changes.
use Rattle.std.specs.Prelude.{ℕ, ◌+◌, ◌==◌, List, [], ◌∷◌, ◌++◌, length, slice_set, if◌then◌else◌}
use Rattle.slot_core.specs.declared.event.CoreEvent.{CoreEvent}
use Rattle.slot_core.specs.declared.event.CoreEvent.TheVariants.{Scan, StoreWord, StoreLatest, LoadFirst, Announce, LoadSecond, LoadWord, Clear}
use Rattle.slot_core.specs.declared.view.Phase.{Phase}
use Rattle.slot_core.specs.declared.view.Phase.TheVariants.{Idle, Loaded, Announced, Holding}
use Rattle.slot_core.specs.declared.view.ReaderView.{ReaderView}
use Rattle.slot_core.specs.declared.view.WriterView.{WriterView}
use Rattle.slot_core.specs.Words.{latest_number, announcement, place_of_slot_word, slot_shown, word_for}
use Rattle.slot_core.specs.State.{State, view_at, word_of}

-- ---- the writer's view

-- one more reader was scanned, and this was its announcement
abbrev pub scans : WriterView → ℕ → WriterView
scans w found = record w { scanned = w.scanned ++ slot_shown found ∷ [] }

-- one more word was stored in this slot
abbrev pub stores : WriterView → ℕ → ℕ → WriterView
stores w slot word = record w { chosen = slot; stored = w.stored ++ word ∷ [] }

-- the word that shows the message that is being written
abbrev pub word_to_show : WriterView → ℕ
word_to_show w = word_for (length w.published + 1) w.chosen

-- `latest` was stored: the message is published, and the scan begins anew
abbrev pub publishes : WriterView → WriterView
publishes w = record {
  scanned = [];
  chosen = w.chosen;
  stored = [];
  last = word_to_show w;
  published = w.published ++ w.stored ∷ [];
}

-- ---- a reader's view

abbrev pub first_phase : ℕ → Phase
first_phase found = if found == 0 then Idle else Loaded found

-- `latest` was loaded, and these are all messages published
abbrev pub begins : ReaderView → ℕ → List (List ℕ) → ReaderView
begins v found all = record { phase = first_phase found; own = v.own; seen = all }

abbrev pub announces : ReaderView → ReaderView
announces v = record { phase = Announced (word_of v.phase); own = word_of v.phase; seen = v.seen }

-- the reader holds if it finds the word again, and else goes on with what it found
-- rule: SAMP-10, SAMP-13
abbrev pub second_phase : ℕ → ℕ → Phase
second_phase word found = if found == word then Holding word else Loaded found

abbrev pub looks_again : ReaderView → ℕ → List (List ℕ) → ReaderView
looks_again v found all = record { phase = second_phase (word_of v.phase) found; own = v.own; seen = all }

abbrev pub clears : ReaderView → ReaderView
clears v = record { phase = Idle; own = 0; seen = v.seen }

-- ---- the state after each step

abbrev pub with_view : State → ℕ → ReaderView → State
with_view c reader v = record c { views = slice_set c.views reader v }

abbrev pub with_announcement : State → ℕ → ReaderView → State
with_announcement c reader v =
    record { words = slice_set c.words (1 + reader) v.own; writer = c.writer; views = slice_set c.views reader v }

abbrev pub after_scan : State → ℕ → State
after_scan c reader = record c { writer = scans c.writer (announcement c.words reader) }

abbrev pub after_store_word : ℕ → State → ℕ → ℕ → ℕ → State
after_store_word readers c slot index word =
    record c { words = slice_set c.words (place_of_slot_word readers slot index) word; writer = stores c.writer slot word }

abbrev pub after_store_latest : State → State
after_store_latest c = record c { words = slice_set c.words 0 (word_to_show c.writer); writer = publishes c.writer }

abbrev pub after_load_first : State → ℕ → State
after_load_first c reader = with_view c reader (begins (view_at c.views reader) (latest_number c.words) c.writer.published)

abbrev pub after_announce : State → ℕ → State
after_announce c reader = with_announcement c reader (announces (view_at c.views reader))

abbrev pub after_load_second : State → ℕ → State
after_load_second c reader =
    with_view c reader (looks_again (view_at c.views reader) (latest_number c.words) c.writer.published)

abbrev pub after_clear : State → ℕ → State
after_clear c reader = with_announcement c reader (clears (view_at c.views reader))

-- in a port with this many readers
abbrev pub after_event : ℕ → State → CoreEvent → State
after_event readers c (Scan reader) = after_scan c reader
after_event readers c (StoreWord slot index word) = after_store_word readers c slot index word
after_event readers c StoreLatest = after_store_latest c
after_event readers c (LoadFirst reader) = after_load_first c reader
after_event readers c (Announce reader) = after_announce c reader
after_event readers c (LoadSecond reader) = after_load_second c reader
after_event readers c (LoadWord reader index) = c
after_event readers c (Clear reader) = after_clear c reader

-- the state after some events, in order
abbrev pub after_all : ℕ → State → List CoreEvent → State
after_all readers c [] = c
after_all readers c (event ∷ events) = after_all readers (after_event readers c event) events
