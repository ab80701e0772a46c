-- What the laws of a running triple buffer speak of.
use Rattle.std.specs.Prelude.{◌≡◌, ◌<◌, ◌≤◌, ℕ, List, Option, Some, slice_index}
use mathlib.Core.Option.{some}
use lib.ListN.{get_elem?}
use Rattle.atomic_table.specs.Table as table
use Rattle.es_base.specs.declared.event.Message.{Message}
use Rattle.triple_buffer.specs.declared.latest.Latest.{Latest}
use Rattle.triple_buffer.specs.declared.rule.SeatView.{SeatView}
use Rattle.triple_buffer.specs.declared.rule.SeatView.TheVariants.{Reads, Writes}
use Rattle.triple_buffer.specs.declared.rule.WriterView.{WriterView}
use Rattle.triple_buffer.specs.Plays.{BufferSeat, looked, reader_in, taken}
use Rattle.triple_buffer.specs.Rule.{place_of_word}

-- the word, the buffers that no end has, and what each seat knows
-- rule: CONC-15
abbrev pub BufferState : Type 0
BufferState = table.State (Option Latest) SeatView

-- the seat of this number knows this
abbrev pub SeatSees : BufferState → ℕ → SeatView → Type 0
SeatSees s seat view = get_elem? s.views seat ≡ some view

-- a step that a seat makes
abbrev pub BufferStep : Type 0
BufferStep = table.Step (Option Latest)

-- the word between the ends
abbrev pub word_in : BufferState → ℕ
word_in s = slice_index s.words 0

-- the word has the mark: the reader hasn't taken the buffer between the ends
-- rule: CONC-16
abbrev pub HasMark : ℕ → Type 0
HasMark word = 4 ≤ word

abbrev pub HasNoMark : ℕ → Type 0
HasNoMark word = word < 4

-- the writer has published these messages
pub record ArePublished (s : BufferState) (messages : List Message) : Type 0 where
  pub seat : ℕ
  pub writer : WriterView
  pub knows : SeatSees s seat (Writes writer)
  pub all : messages ≡ writer.published

-- the buffer that lies between the ends
abbrev pub LiesBetween : BufferState → Latest → Type 0
LiesBetween s latest = get_elem? s.homes (place_of_word (word_in s)) ≡ some (some (Some latest))

-- In this state a reader's seat looks: the load finds the word as it is. After it the seat is this.
-- rule: CONC-16, CONC-17
pub record LooksAtWord (s : BufferState) (load : BufferStep) (before after : BufferSeat) : Type 0 where
  pub seat : ℕ
  pub knows : SeatSees s seat before.0
  pub reader : before.0 ≡ Reads (reader_in before.0)
  pub told : looked load before (word_in s) after

-- By this exchange a reader's seat took the buffer between the ends, and left its own there, without the mark. This is
-- the state right after it, and the seat.
-- rule: CONC-16, CONC-17
pub record TookIn (s : BufferState) (swap : BufferStep) (found : ℕ) (before after : BufferSeat) : Type 0 where
  pub seat : ℕ
  pub knows : SeatSees s seat after.0
  pub stored : word_in s ≡ swap.first
  pub unmarked : HasNoMark swap.first
  pub told : taken swap before found after
