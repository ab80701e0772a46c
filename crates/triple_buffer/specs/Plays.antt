-- What each step tells its seat.
use Rattle.std.specs.Prelude.{◌≡◌, ℕ, ◌+◌, ◌<◌, ◌≤◌, true, false, List, [], ◌∷◌, ◌++◌, length, Option, Some}
use Rattle.atomic_table.specs.Table.{Me, Step}
use Rattle.es_base.specs.declared.event.Message.{Message}
use Rattle.triple_buffer.specs.Rule.{HasRoom, IsLastOf, StartsWith, message_in, place_of_word, writer_at_first, reader_at_first}
use Rattle.triple_buffer.specs.declared.latest.Latest.{Latest}
use Rattle.triple_buffer.specs.declared.rule.WriterView.{WriterView}
use Rattle.triple_buffer.specs.declared.rule.ReaderView.{ReaderView}
use Rattle.triple_buffer.specs.declared.rule.SeatView.{SeatView}
use Rattle.triple_buffer.specs.declared.rule.SeatView.TheVariants.{Writes, Reads, Meets, Spent}

-- a seat, before or after a step
abbrev pub BufferSeat : Type 0
BufferSeat = Me (Option Latest) SeatView

abbrev pub writer_in : SeatView → WriterView
writer_in (Writes writer) = writer
writer_in (Meets writer reader) = writer
writer_in _ = writer_at_first 0

abbrev pub reader_in : SeatView → ReaderView
reader_in (Reads reader) = reader
reader_in (Meets writer reader) = reader
reader_in _ = reader_at_first 0

-- ---- the writer

-- the message is in the buffer now, with its number
abbrev pub IsFilled : Option Latest → Option Latest → ℕ → Message → Type 0
IsFilled before after number message = (old : Latest) × (new : Latest) × (before ≡ Some old) × (after ≡ Some new)
    × (new.number ≡ number) × (message_in new ≡ message) × (length new.octets.items ≡ length old.octets.items)

-- the same, of the buffer in this place
abbrev pub IsFilledAt : List (ℕ × Option Latest) → List (ℕ × Option Latest) → ℕ → ℕ → Message → Type 0
IsFilledAt before after slot number message = (old : Option Latest) × (new : Option Latest) × (before ≡ (slot, old) ∷ []) × (after ≡ (slot, new) ∷ [])
    × IsFilled old new number message

-- one step more
abbrev pub writer_publishes : WriterView → Message → ℕ → WriterView
writer_publishes writer message slot = record writer { published = writer.published ++ message ∷ []; slot = slot; steps = writer.steps + 1 }

-- it swapped its buffer, which has this message, with the one between the ends
-- rule: CONC-16
abbrev pub published : Step (Option Latest) → BufferSeat → ℕ → BufferSeat → Type 0
published step me found me' = (slot : ℕ) (own : Latest) → me.1 ≡ (slot, Some own) ∷ [] → (other : Latest)
    × (me'.0 ≡ Writes (writer_publishes (writer_in me.0) (message_in own) (place_of_word found))) × (me'.1 ≡ (place_of_word found, Some other) ∷ [])
    × (place_of_word found < 3) × HasRoom (writer_in me.0).longest other

-- ---- the reader

-- one step more, which was a look that found a newer message
abbrev pub sees_newer : ReaderView → ReaderView
sees_newer reader = record reader { newer = true; looks = reader.looks ++ true ∷ []; steps = reader.steps + 1 }

-- one step more, which was a look that found none
abbrev pub sees_all : ReaderView → ReaderView
sees_all reader = record reader { known = reader.seen; looks = reader.looks ++ false ∷ []; steps = reader.steps + 1 }

-- one step more
abbrev pub takes : ReaderView → List Message → ℕ → ReaderView
takes reader all slot = record {
  seen = all;
  known = all;
  newer = false;
  slot = slot;
  has = reader.has;
  longest = reader.longest;
  looks = reader.looks;
  steps = reader.steps + 1;
}

-- it loaded the word: there is a newer message between the ends, or it has the last that was published
-- rule: CONC-16
abbrev pub looked : Step (Option Latest) → BufferSeat → ℕ → BufferSeat → Type 0
looked step me found me' = (me'.1 ≡ me.1) × (4 ≤ found → me'.0 ≡ Reads (sees_newer (reader_in me.0)))
    × (found < 4 → (me'.0 ≡ Reads (sees_all (reader_in me.0))) × StartsWith (reader_in me.0).seen (reader_in me.0).known)

-- it swapped its buffer with the one between the ends, which has the last message that was published, a newer one than
-- its own
-- rule: CONC-16
abbrev pub taken : Step (Option Latest) → BufferSeat → ℕ → BufferSeat → Type 0
taken step me found me' = (all : List Message) × (latest : Latest) × (me'.0 ≡ Reads (takes (reader_in me.0) all (place_of_word found)))
    × (me'.1 ≡ (place_of_word found, Some latest) ∷ []) × (place_of_word found < 3) × HasRoom (reader_in me.0).longest latest × IsLastOf latest all
    × StartsWith all (reader_in me.0).known × (length (reader_in me.0).seen < length all)

-- ---- the opening: the two are parted, and each takes its buffer. It counts no step

abbrev pub seat_parted : SeatView → SeatView
seat_parted (Meets writer reader) = Reads reader
seat_parted view = view

abbrev pub writer_left : SeatView → SeatView
writer_left (Meets writer reader) = Writes writer
writer_left view = Spent

abbrev pub writer_enters : Step (Option Latest) → BufferSeat → ℕ → BufferSeat → Type 0
writer_enters step me found me' = (own : Latest) × (me'.0 ≡ Writes (record (writer_in me.0) { has = true }))
    × (me'.1 ≡ ((writer_in me.0).slot, Some own) ∷ []) × HasRoom (writer_in me.0).longest own

abbrev pub reader_enters : Step (Option Latest) → BufferSeat → ℕ → BufferSeat → Type 0
reader_enters step me found me' = (own : Latest) × (me'.0 ≡ Reads (record (reader_in me.0) { has = true }))
    × (me'.1 ≡ ((reader_in me.0).slot, Some own) ∷ []) × HasRoom (reader_in me.0).longest own × IsLastOf own (reader_in me.0).seen

-- ---- a meeting: the writer's seat joins the reader's, which learns what is published, and is parted from it again. It
-- counts no step

abbrev pub with_known : ReaderView → List Message → ReaderView
with_known reader all = record reader { known = all }

abbrev pub seats_met : SeatView → SeatView → SeatView
seats_met (Reads reader) (Writes writer) = Meets writer reader
seats_met view other = view

abbrev pub reader_learns : Step (Option Latest) → BufferSeat → ℕ → BufferSeat → Type 0
reader_learns step me found me' = (me'.1 ≡ me.1) × (me'.0 ≡ Meets (writer_in me.0) (with_known (reader_in me.0) (writer_in me.0).published))
    × StartsWith (writer_in me.0).published (reader_in me.0).known
