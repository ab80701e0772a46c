-- What a contract sees of a writer's seat and of a reader's: which port it is at, and what it knows.
use Rattle.std.specs.Prelude.{◌≡◌, ◌≢◌, ℕ, zero, suc, ◌<◌, List, [], ◌∷◌, ◌++◌, length}
use Rattle.atomic_table.specs.Seated.{TableId}
use Rattle.slot_core.specs.State.{word_of}
use Rattle.sampling_port.specs.declared.rule.WriterLog.{WriterLog}
use Rattle.sampling_port.specs.declared.rule.ReaderLog.{ReaderLog}
use Rattle.sampling_port.specs.Rule.{first_reader}
use Rattle.sampling_port.specs.Plays.{Looks, looks_first, looks_again}

pub record WriterSeated : Type 0 where
  pub port : TableId
  pub knows : WriterLog

pub record ReaderSeated : Type 0 where
  pub port : TableId
  pub place : ℕ
  pub knows : ReaderLog

-- the same seat, which knows this
abbrev pub writer_with : WriterSeated → WriterLog → WriterSeated
writer_with seat log = record { port = seat.port; knows = log }

abbrev pub reader_with : ReaderSeated → ReaderLog → ReaderSeated
reader_with seat log = record { port = seat.port; place = seat.place; knows = log }

-- a reader's seat that has made no step
abbrev pub new_seat : TableId → ℕ → ReaderSeated
new_seat port place = record { port = port; place = place; knows = first_reader }

-- this many of them, in order of their places
abbrev pub new_seats : TableId → ℕ → List ReaderSeated
new_seats port zero = []
new_seats port (suc n) = new_seats port n ++ new_seat port n ∷ []

-- ---- a reader's looks: it has seen all that is published at the look

-- rule: SAMP-19
abbrev pub LooksFirst : ℕ → ReaderSeated → ReaderSeated → ℕ → Type 0
LooksFirst slots v w found = (all : List (List ℕ)) × (w ≡ reader_with v (looks_first v.knows found all)) × Looks slots v.knows.view found all

-- and if it finds another word than it announced, there is more than it saw before
-- rule: SAMP-19
abbrev pub LooksAgain : ℕ → ReaderSeated → ReaderSeated → ℕ → Type 0
LooksAgain slots v w found = (all : List (List ℕ)) × (w ≡ reader_with v (looks_again v.knows found all)) × Looks slots v.knows.view found all
    × (found ≢ word_of v.knows.view.phase → length v.knows.view.seen < length all)
