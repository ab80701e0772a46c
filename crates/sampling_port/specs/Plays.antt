-- What each step tells its seat: which word of the table was loaded or stored, and the event of the core, on the
-- seat's view.
use Rattle.std.specs.Prelude.{◌≡◌, ◌≢◌, ℕ, ◌+◌, ◌<◌, ◌==◌, Bool, false, List, [], ◌∷◌, ◌++◌, length, slice_index}
use Rattle.atomic_table.specs.Table.{Me, Step}
use Rattle.slot_core.specs.declared.view.WriterView.{WriterView}
use Rattle.slot_core.specs.declared.view.ReaderView.{ReaderView}
use Rattle.slot_core.specs.Words.{place_of_slot_word, slot_of, ShowsWord}
use Rattle.slot_core.specs.Message.{IsMessage}
use Rattle.slot_core.specs.State.{StartsWithSeen, last_of, word_of}
use Rattle.slot_core.specs.Steps.{scans, stores, publishes, begins, announces, clears}
use Rattle.slot_core.specs.Steps.{looks_again as again}
use Rattle.sampling_port.specs.Rule.{new_writer_log, first_reader}
use Rattle.sampling_port.specs.declared.rule.WriterLog.{WriterLog}
use Rattle.sampling_port.specs.declared.rule.ReaderLog.{ReaderLog}
use Rattle.sampling_port.specs.declared.rule.SeatView.{SeatView}
use Rattle.sampling_port.specs.declared.rule.SeatView.TheVariants.{Opens, Writes, Reads, Meets, Spent}

-- a seat, before or after a step
abbrev pub At : Type 0
At = Me (Unit {0}) SeatView

-- ---- which word of the table is loaded or stored

-- `latest`
abbrev pub latest_place : ℕ
latest_place = 0

-- the announcement of the reader at this place
abbrev pub announcement_place : ℕ → ℕ
announcement_place reader = 1 + reader

-- ---- what a seat knows, if it is the writer's or a reader's

abbrev pub writer_of : SeatView → WriterLog
writer_of (Writes writer) = writer
writer_of (Meets writer place reader) = writer
writer_of _ = new_writer_log

abbrev pub reader_of : SeatView → ReaderLog
reader_of (Reads place reader) = reader
reader_of (Meets writer place reader) = reader
reader_of _ = first_reader

abbrev pub place_at : SeatView → ℕ
place_at (Reads place reader) = place
place_at (Meets writer place reader) = place
place_at _ = 0

-- ---- the writer's steps

-- one more step, after which this is its view
abbrev pub writes : WriterLog → WriterView → WriterLog
writes writer view = record { view = view; steps = writer.steps + 1 }

-- it loaded the announcement of the next reader
-- rule: SAMP-19
abbrev pub scanned : Step (Unit {0}) → At → ℕ → At → Type 0
scanned step me found me' = (step.word ≡ announcement_place (length (writer_of me.0).view.scanned))
    × (me'.0 ≡ Writes (writes (writer_of me.0) (scans (writer_of me.0).view found)))

-- it stored the next word of the message in a slot of a port with this many readers
-- rule: SAMP-19
abbrev pub stored : ℕ → Step (Unit {0}) → At → ℕ → At → Type 0
stored readers step me found me' = (slot : ℕ) → step.word ≡ place_of_slot_word readers slot (length (writer_of me.0).view.stored)
    → me'.0 ≡ Writes (writes (writer_of me.0) (stores (writer_of me.0).view slot step.first))

-- it stored `latest`
-- rule: SAMP-19
abbrev pub published : Step (Unit {0}) → At → ℕ → At → Type 0
published step me found me' = (step.word ≡ latest_place) × (me'.0 ≡ Writes (writes (writer_of me.0) (publishes (writer_of me.0).view)))

-- ---- a reader's steps

-- one more step, after which this is its view
abbrev pub reads : ReaderLog → ReaderView → ReaderLog
reads reader view = record { view = view; looks = reader.looks; steps = reader.steps + 1 }

-- the same, and it was a look, which held or not
abbrev pub looks : ReaderLog → Bool → ReaderView → ReaderLog
looks reader held view = record { view = view; looks = reader.looks ++ held ∷ []; steps = reader.steps + 1 }

abbrev pub looks_first : ReaderLog → ℕ → List (List ℕ) → ReaderLog
looks_first reader found all = looks reader false (begins reader.view found all)

abbrev pub looks_again : ReaderLog → ℕ → List (List ℕ) → ReaderLog
looks_again reader found all = looks reader (found == word_of reader.view.phase) (again reader.view found all)

-- a reader with this view looked, in a port with this many slots, and found this word of `latest`, when `all` was
-- published
pub record Looks (slots : ℕ) (v : ReaderView) (found : ℕ) (all : List (List ℕ)) : Type 0 where
  pub before : StartsWithSeen all v.seen
  pub none : length all ≡ 0 → found ≡ 0
  pub some : 0 < length all → ShowsWord slots found (length all)
  pub message : 0 < length all → IsMessage (last_of all)

-- it loaded `latest`
abbrev pub first : ℕ → Step (Unit {0}) → At → ℕ → At → Type 0
first slots step me found me' = (step.word ≡ latest_place) × ((all : List (List ℕ))
    × (me'.0 ≡ Reads (place_at me.0) (looks_first (reader_of me.0) found all)) × Looks slots (reader_of me.0).view found all)

-- it loaded `latest` again; if it found another word than the one it announced, there is more than it had seen
abbrev pub second : ℕ → Step (Unit {0}) → At → ℕ → At → Type 0
second slots step me found me' = (step.word ≡ latest_place) × ((all : List (List ℕ))
    × (me'.0 ≡ Reads (place_at me.0) (looks_again (reader_of me.0) found all)) × Looks slots (reader_of me.0).view found all
    × (found ≢ word_of (reader_of me.0).view.phase → length (reader_of me.0).view.seen < length all))

-- it stored its announcement
-- rule: SAMP-19
abbrev pub announced : Step (Unit {0}) → At → ℕ → At → Type 0
announced step me found me' = (step.word ≡ announcement_place (place_at me.0))
    × (me'.0 ≡ Reads (place_at me.0) (reads (reader_of me.0) (announces (reader_of me.0).view)))

-- it loaded a word of the message that it holds, in a port with this many readers
-- rule: SAMP-19
abbrev pub got : ℕ → Step (Unit {0}) → At → ℕ → At → Type 0
got readers step me found me' = (me'.0 ≡ Reads (place_at me.0) (reads (reader_of me.0) (reader_of me.0).view))
    × ((index : ℕ) → index < length (last_of (reader_of me.0).view.seen)
    → step.word ≡ place_of_slot_word readers (slot_of (word_of (reader_of me.0).view.phase)) index
    → found ≡ slice_index (last_of (reader_of me.0).view.seen) index)

-- it cleared its announcement
-- rule: SAMP-19
abbrev pub cleared : Step (Unit {0}) → At → ℕ → At → Type 0
cleared step me found me' = (step.word ≡ announcement_place (place_at me.0))
    × (me'.0 ≡ Reads (place_at me.0) (reads (reader_of me.0) (clears (reader_of me.0).view)))

-- ---- the opening: the readers are parted off one by one, and at last the writer

abbrev pub less_one : SeatView → SeatView
less_one (Opens parted) = Opens (parted + 1)
less_one view = view

abbrev pub next_one : SeatView → SeatView
next_one (Opens parted) = Reads parted first_reader
next_one view = Spent

-- ---- a meeting: the writer's seat joins a reader's, which learns what is published, and is parted from it again

abbrev pub learns : ReaderLog → List (List ℕ) → ReaderLog
learns reader seen = record {
  view = record { phase = reader.view.phase; own = reader.view.own; seen = seen };
  looks = reader.looks;
  steps = reader.steps;
}

abbrev pub met : SeatView → SeatView → SeatView
met (Reads place reader) (Writes writer) = Meets writer place reader
met view other = view

-- it loaded `latest`; what the reader had seen begins what is published
abbrev pub tells_published : Step (Unit {0}) → At → ℕ → At → Type 0
tells_published step me found me' = (step.word ≡ latest_place)
    × (me'.0 ≡ Meets (writer_of me.0) (place_at me.0) (learns (reader_of me.0) (writer_of me.0).view.published))
    × StartsWithSeen (writer_of me.0).view.published (reader_of me.0).view.seen

abbrev pub parted : SeatView → SeatView
parted (Meets writer place reader) = Reads place reader
parted view = view

abbrev pub writer_again : SeatView → SeatView
writer_again (Meets writer place reader) = Writes writer
writer_again view = Spent
