-- What the laws of a running port speak of.
use Rattle.std.specs.Prelude.{◌≡◌, ℕ, ◌⊎◌, slice_index}
use mathlib.Core.Option.{some}
use lib.ListN.{get_elem?}
use Rattle.atomic_table.specs.Table as table
use Rattle.sampling_port.specs.Plays.{At, first, second}
use Rattle.sampling_port.specs.declared.rule.SeatView.{SeatView}

-- the words of a port's table, and what each of its seats knows
-- rule: SAMP-20
abbrev pub PortState : Type 0
PortState = table.State (Unit {0}) SeatView

-- the seat of this number knows this
-- rule: SAMP-20
abbrev pub SeatKnows : PortState → ℕ → SeatView → Type 0
SeatKnows s seat view = get_elem? s.views seat ≡ some view

-- a step that a seat makes
-- rule: SAMP-19
abbrev pub SeatStep : Type 0
SeatStep = table.Step (Unit {0})

-- in this state the step finds this number in the word that it loads
abbrev pub IsFoundIn : PortState → SeatStep → ℕ → Type 0
IsFoundIn s load found = found ≡ slice_index s.words load.word

-- the step is a look, the first of a read or a later one, in a port with this many slots, by what it tells its seat
-- rule: SAMP-23
abbrev pub IsLook : ℕ → SeatStep → At → ℕ → At → Type 0
IsLook slots load me found after = first slots load me found after ⊎ second slots load me found after
