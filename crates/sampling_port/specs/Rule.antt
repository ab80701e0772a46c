-- The rule of a port's table: its words, and what its seats know, are a lawful state of the core.
use Rattle.std.specs.Prelude.{◌≡◌, ℕ, ◌+◌, ◌<◌, ◌≤◌, List, [], length}
use mathlib.Core.Option.{some}
use lib.ListN.{get_elem?}
use Rattle.atomic_table.specs.Table as table
use Rattle.slot_core.specs.declared.view.WriterView.{WriterView}
use Rattle.slot_core.specs.declared.view.ReaderView.{ReaderView}
use Rattle.slot_core.specs.State.{newcomer, view_at}
use Rattle.slot_core.specs.State.{first_writer as unwritten}
use Rattle.slot_core.specs.Lawful.{Lawful}
use Rattle.sampling_port.specs.declared.rule.WriterLog.{WriterLog}
use Rattle.sampling_port.specs.declared.rule.ReaderLog.{ReaderLog}
use Rattle.sampling_port.specs.declared.rule.SeatView.{SeatView}
use Rattle.sampling_port.specs.declared.rule.SeatView.TheVariants.{Opens, Writes, Reads, Meets, Spent}

-- each reader can keep one slot from the writer, `latest` shows one, and one is written
abbrev pub slots_for : ℕ → ℕ
slots_for readers = readers + 2

-- what a seat knows is true of the writer's view and the readers' views, given which seat is the writer's and which
-- the seat of each reader
module _ (w : WriterView) (rs : List ReaderView) (writer : ℕ) (owner : ℕ → ℕ) (seat : ℕ) where
  abbrev pub Knows : SeatView → Type 0
  -- the readers that aren't parted off yet are newcomers, and this seat's
  Knows (Opens parted) = (w ≡ unwritten) × (seat ≡ writer) × ((r : ℕ) → parted ≤ r → r < length rs → (view_at rs r ≡ newcomer) × (owner r ≡ seat))
  Knows (Writes v) = (v.view ≡ w) × (seat ≡ writer)
  Knows (Reads r v) = (r < length rs) × (view_at rs r ≡ v.view) × (owner r ≡ seat)
  Knows (Meets v r u) = ((v.view ≡ w) × (seat ≡ writer)) × ((r < length rs) × (view_at rs r ≡ u.view) × (owner r ≡ seat))
  Knows Spent = Unit {0}

-- a port with this many readers and slots: there are views of a writer and of its readers that are lawful with the
-- words, and each seat knows its own
-- rule: SAMP-20
pub record KeptTable (readers_count slots : ℕ) (s : table.State (Unit {0}) SeatView) : Type 0 where
  pub writer : WriterView
  pub readers : List ReaderView
  pub writer_seat : ℕ
  pub owner : ℕ → ℕ
  pub lawful : Lawful readers_count slots (record { words = s.words; writer = writer; views = readers })
  pub seats : (seat : ℕ) (view : SeatView) → get_elem? s.views seat ≡ some view → Knows writer readers writer_seat owner seat view

-- ---- before the first step

abbrev pub new_writer_log : WriterLog
new_writer_log = record { view = unwritten; steps = 0 }

abbrev pub first_reader : ReaderLog
first_reader = record { view = newcomer; looks = []; steps = 0 }
