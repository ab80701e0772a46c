-- What the laws of a running queue speak of.
use Rattle.std.specs.Prelude.{◌≡◌, ℕ, List, slice_index}
use mathlib.Core.Option.{some}
use lib.ListN.{get_elem?}
use Rattle.atomic_table.specs.Table as table
use Rattle.message_ring.specs.declared.rule.QueuedMessage.{QueuedMessage}
use Rattle.message_ring.specs.declared.slot.Slot.{Slot}
use Rattle.message_ring.specs.declared.rule.QueueView.{QueueView}
use Rattle.message_ring.specs.declared.rule.SeatView.{SeatView}
use Rattle.message_ring.specs.declared.rule.SeatView.TheVariants.{Puts, Takes}
use Rattle.message_ring.specs.Plays.{QueueSeat, putter_looks, taker_looks}

-- the two words, the slots that no end has, and what each seat knows
-- rule: PORT-11
abbrev pub QueueState : Type 0
QueueState = table.State Slot SeatView

-- the seat of this number knows this
abbrev pub SeatHas : QueueState → ℕ → SeatView → Type 0
SeatHas s seat view = get_elem? s.views seat ≡ some view

-- the putter has put these messages
pub record HavePut (s : QueueState) (messages : List QueuedMessage) : Type 0 where
  pub seat : ℕ
  pub putter : QueueView
  pub knows : SeatHas s seat (Puts putter)
  pub all : messages ≡ putter.put

-- the taker has taken these messages
pub record HaveTaken (s : QueueState) (messages : List QueuedMessage) : Type 0 where
  pub seat : ℕ
  pub taker : QueueView
  pub knows : SeatHas s seat (Takes taker)
  pub all : messages ≡ taker.taken

-- By a load of the taker's word a putter looked. This is the state right after it, and the seat.
-- rule: PORT-17
pub record PutterLooked (s : QueueState) (before after : QueueSeat) : Type 0 where
  pub seat : ℕ
  pub knows : SeatHas s seat after.0
  pub told : putter_looks before (slice_index s.words 1) after

-- By a load of the putter's word a taker that has no slot looked. This is the state right after it, and the seat.
-- rule: EMB-10
pub record TakerLooked (s : QueueState) (before after : QueueSeat) : Type 0 where
  pub seat : ℕ
  pub taker : QueueView
  pub is : after.0 ≡ Takes taker
  pub knows : SeatHas s seat after.0
  pub told : taker_looks before (slice_index s.words 0) after
