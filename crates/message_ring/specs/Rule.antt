-- The rule of a queue's slots: the messages stand in slots one after another, from their puts to their takings; a queue in
-- which none stands may begin again at its first slot (own).
use Rattle.std.specs.Prelude.{◌≡◌, ◌≢◌, ℕ, ◌+◌, ◌<◌, ◌≤◌, ◌%◌, ◌^◌, true, false, List, [], ◌∷◌, length, slice_get, Some, vec_capacity}
use Rattle.std.specs.declared.alloc.Global.{Global}
use Rattle.std.specs.declared.vec.Vec.{Vec}
use mathlib.Core.Option as maybe
use mathlib.Core.Option.{some}
use lib.ListN.{get_elem?}
use Rattle.atomic_table.specs.Table as table
use Rattle.message_ring.specs.declared.rule.QueuedMessage.{QueuedMessage}
use Rattle.es_base.specs.Limits.{deepest_queue}
use Rattle.message_ring.specs.Queue.{BeginsWith, queued}
use Rattle.message_ring.specs.declared.slot.Slot.{Slot}
use Rattle.message_ring.specs.declared.rule.QueueView.{QueueView}
use Rattle.message_ring.specs.declared.rule.SeatView.{SeatView}
use Rattle.message_ring.specs.declared.rule.SeatView.TheVariants.{Puts, Takes, Meets, Spent}

-- the message in a slot, with the number of those lost right before it
abbrev pub in_slot : Slot → QueuedMessage
in_slot slot = queued slot.time slot.octets.items slot.lost

-- room for this many octets, with no more in it
abbrev pub HoldsUpTo : ℕ → Vec ℕ Global → Type 0
HoldsUpTo max octets = (max ≤ vec_capacity octets) × (length octets.items ≤ max)

-- a slot with room for this many octets
abbrev pub IsRoomy : ℕ → Slot → Type 0
IsRoomy max slot = HoldsUpTo max slot.octets

-- a word of the table counts modulo 2 ^ 64
abbrev pub wrapped : ℕ → ℕ
wrapped count = count % 2 ^ 64

-- the slot that is so many after the first one, round and round
abbrev pub slot_for : ℕ → ℕ → ℕ
slot_for depth many = many % depth

-- the slot of the message with this number, by where an end knows number 0 to be
-- rule: PORT-11
abbrev pub slot_of_number : QueueView → ℕ → ℕ
slot_of_number end number = slot_for end.depth (end.start + number)

-- the slot of this number is at home, with room, and has the message of this number if that was put
-- rule: PORT-10, PORT-11
pub record IsInPlace (homes : List (maybe.Option Slot)) (putter : QueueView) (number : ℕ) : Type 0 where
  pub slot : Slot
  pub home : get_elem? homes (slot_of_number putter number) ≡ some (some slot)
  pub room : IsRoomy putter.max slot
  pub message : (put : QueuedMessage) → slice_get putter.put number ≡ Some put → in_slot slot ≡ put

-- What the putter and the taker know is true of the words and of the slots that no end has. No more messages wait than
-- the queue holds, and the slots of these and of the free ones are at home, but for those that an end has: the putter
-- that of the message which it puts next, the taker that of the message which it takes next. While a message waits of
-- which the taker knows, and it read where number 0 is since it learned of it, it knows that rightly.
-- rule: PORT-10, PORT-11, PORT-17
pub record LawfulQueue (words : List ℕ) (homes : List (maybe.Option Slot)) (p t : QueueView) : Type 0 where
  pub words_are : words ≡ wrapped (length p.put) ∷ wrapped (length t.taken) ∷ p.start ∷ []
  pub some_slot : 0 < p.depth
  pub most : p.depth ≤ deepest_queue
  pub begins : p.start < p.depth
  pub count : length homes ≡ p.depth
  pub size : (t.depth ≡ p.depth) × (t.max ≡ p.max)
  pub few : length p.put ≤ length t.taken + p.depth
  pub put : BeginsWith p.put t.put
  pub taken : BeginsWith t.put t.taken
  pub known : BeginsWith t.taken p.taken
  pub start : t.sure ≡ true → length t.taken < length t.put → t.start ≡ p.start
  pub putting : p.has ≡ true → length p.put < length t.taken + p.depth
  pub taking : t.has ≡ true → (length t.taken < length t.put) × (t.sure ≡ true)
  pub places : (number : ℕ) → length t.taken ≤ number → number < length t.taken + p.depth
      → (p.has ≡ true → number ≢ length p.put) → (t.has ≡ true → number ≢ length t.taken)
      → IsInPlace homes p number

-- what a seat knows, given which seats are the putter's and the taker's
module _ (p t : QueueView) (putter taker seat : ℕ) where
  abbrev pub KnowsItsQueue : SeatView → Type 0
  KnowsItsQueue (Puts v) = (v ≡ p) × (seat ≡ putter)
  KnowsItsQueue (Takes v) = (v ≡ t) × (seat ≡ taker)
  KnowsItsQueue (Meets v u) = ((v ≡ p) × (seat ≡ putter)) × ((u ≡ t) × (seat ≡ taker))
  KnowsItsQueue Spent = Unit {0}

-- rule: PORT-11
pub record KeptQueue (s : table.State Slot SeatView) : Type 0 where
  pub putter : QueueView
  pub taker : QueueView
  pub putter_seat : ℕ
  pub taker_seat : ℕ
  pub lawful : LawfulQueue s.words s.homes putter taker
  pub seats : (seat : ℕ) (view : SeatView) → get_elem? s.views seat ≡ some view → KnowsItsQueue putter taker putter_seat taker_seat seat view

-- before the first step
abbrev pub view_at_first : ℕ → ℕ → QueueView
view_at_first depth max = record { put = []; taken = []; has = false; depth = depth; max = max; looks = 0; start = 0; sure = true }
