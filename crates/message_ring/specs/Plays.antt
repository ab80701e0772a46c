-- What each step tells its seat.
use Rattle.std.specs.Prelude.{◌≡◌, ℕ, ◌+◌, ◌<◌, ◌≤◌, true, false, List, [], ◌∷◌, ◌++◌, length, slice_get, Some}
use Rattle.atomic_table.specs.Table.{Me}
use Rattle.message_ring.specs.declared.rule.QueuedMessage.{QueuedMessage}
use Rattle.message_ring.specs.Queue.{BeginsWith}
use Rattle.message_ring.specs.Rule.{IsRoomy, in_slot, slot_of_number, view_at_first, wrapped}
use Rattle.message_ring.specs.declared.slot.Slot.{Slot}
use Rattle.message_ring.specs.declared.rule.QueueView.{QueueView}
use Rattle.message_ring.specs.declared.rule.SeatView.{SeatView}
use Rattle.message_ring.specs.declared.rule.SeatView.TheVariants.{Puts, Takes, Meets, Spent}

-- a seat, before or after a step
abbrev pub QueueSeat : Type 0
QueueSeat = Me Slot SeatView

abbrev pub putter_in : SeatView → QueueView
putter_in (Puts putter) = putter
putter_in (Meets putter taker) = putter
putter_in _ = view_at_first 0 0

abbrev pub taker_in : SeatView → QueueView
taker_in (Takes taker) = taker
taker_in (Meets putter taker) = taker
taker_in _ = view_at_first 0 0

-- it has the slot of its next message
abbrev pub with_slot_taken : QueueView → QueueView
with_slot_taken view = record view { has = true }

-- ---- the putter

abbrev pub puts_one : QueueView → QueuedMessage → QueueView
puts_one putter message = record putter { put = putter.put ++ message ∷ []; has = false }

-- one look more, by which it knows these to be taken
abbrev pub sees_taken : QueueView → List QueuedMessage → QueueView
sees_taken putter taken = record putter { taken = taken; looks = putter.looks + 1 }

-- it took the slot of its next message
abbrev pub putter_enters : QueueSeat → ℕ → QueueSeat → Type 0
putter_enters me found me' = (slot : Slot) × (me' ≡ (Puts (with_slot_taken (putter_in me.0)), (slot_of_number (putter_in me.0) (length (putter_in me.0).put), slot) ∷ []))
    × IsRoomy (putter_in me.0).max slot

-- it gave its slot home, with the message that is in it
-- rule: PORT-11
abbrev pub putter_puts : QueueSeat → ℕ → QueueSeat → Type 0
putter_puts me found me' = (number : ℕ) (slot : Slot) → me.1 ≡ (number, slot) ∷ [] → me' ≡ (Puts (puts_one (putter_in me.0) (in_slot slot)), [])

-- it loaded the taker's word
-- rule: PORT-17
abbrev pub putter_looks : QueueSeat → ℕ → QueueSeat → Type 0
putter_looks me found me' = (taken : List QueuedMessage) × (me' ≡ (Puts (sees_taken (putter_in me.0) taken), me.1)) × (found ≡ wrapped (length taken))
    × BeginsWith taken (putter_in me.0).taken × BeginsWith (putter_in me.0).put taken × (length (putter_in me.0).put ≤ length taken + (putter_in me.0).depth)

-- number 0 is in this slot
abbrev pub started : QueueView → ℕ → QueueView
started end start = record end { start = start }

-- in its queue no message waits, and it said anew where number 0 is
-- rule: PORT-11
abbrev pub putter_starts : QueueSeat → ℕ → QueueSeat → Type 0
putter_starts me start me' = me' ≡ (Puts (started (putter_in me.0) start), [])

-- ---- the taker

abbrev pub takes_one : QueueView → QueuedMessage → QueueView
takes_one taker message = record taker { taken = taker.taken ++ message ∷ []; has = false }

-- it knows these to be put, and has yet to read where number 0 is
abbrev pub sees_put : QueueView → List QueuedMessage → QueueView
sees_put taker put = record taker { put = put; sure = false }

-- it knows where number 0 is
abbrev pub sees_start : QueueView → ℕ → QueueView
sees_start taker start = record taker { start = start; sure = true }

-- one look more, by which it found no message
abbrev pub sees_none : QueueView → QueueView
sees_none taker = record taker { looks = taker.looks + 1 }

-- one look more, by which it knows these to be put, and has yet to read where number 0 is
abbrev pub counts_put : QueueView → List QueuedMessage → QueueView
counts_put taker put = record taker { put = put; looks = taker.looks + 1; sure = false }

-- it took the slot of its next message, which has that message
-- rule: PORT-11
abbrev pub taker_enters : QueueSeat → ℕ → QueueSeat → Type 0
taker_enters me found me' = (slot : Slot) × (me' ≡ (Takes (with_slot_taken (taker_in me.0)), (slot_of_number (taker_in me.0) (length (taker_in me.0).taken), slot) ∷ []))
    × IsRoomy (taker_in me.0).max slot × (slice_get (taker_in me.0).put (length (taker_in me.0).taken) ≡ Some (in_slot slot))

-- it gave its slot home, whose message is taken then
-- rule: PORT-11
abbrev pub taker_takes : QueueSeat → ℕ → QueueSeat → Type 0
taker_takes me found me' = (number : ℕ) (slot : Slot) → me.1 ≡ (number, slot) ∷ [] → me' ≡ (Takes (takes_one (taker_in me.0) (in_slot slot)), [])

-- it loaded the putter's word: all messages that were put are taken, or more were put than it took
-- rule: PORT-11
abbrev pub taker_looks : QueueSeat → ℕ → QueueSeat → Type 0
taker_looks me found me' = (put : List QueuedMessage) × (me'.1 ≡ me.1) × (found ≡ wrapped (length put)) × BeginsWith put (taker_in me.0).put × BeginsWith put (taker_in me.0).taken
    × (length put ≤ length (taker_in me.0).taken + (taker_in me.0).depth) × (length put ≡ length (taker_in me.0).taken → me'.0 ≡ Takes (sees_none (taker_in me.0)))
    × (length (taker_in me.0).taken < length put → me'.0 ≡ Takes (sees_put (taker_in me.0) put))

-- it loaded the word that says where number 0 is
-- rule: PORT-11
abbrev pub taker_reads_start : QueueSeat → ℕ → QueueSeat → Type 0
taker_reads_start me found me' = (me' ≡ (Takes (sees_start (taker_in me.0) found), me.1)) × (found < (taker_in me.0).depth)

-- it loaded the putter's word to count what waits
abbrev pub taker_counts : QueueSeat → ℕ → QueueSeat → Type 0
taker_counts me found me' = (put : List QueuedMessage) × (me' ≡ (Takes (counts_put (taker_in me.0) put), me.1)) × (found ≡ wrapped (length put))
    × BeginsWith put (taker_in me.0).put × BeginsWith put (taker_in me.0).taken × (length put ≤ length (taker_in me.0).taken + (taker_in me.0).depth)

-- ---- the opening: the two are parted. It counts no look

abbrev pub taker_parted : SeatView → SeatView
taker_parted (Meets putter taker) = Takes taker
taker_parted view = view

abbrev pub putter_left : SeatView → SeatView
putter_left (Meets putter taker) = Puts putter
putter_left view = Spent

-- ---- a meeting: the putter's seat joins the taker's, both learn what the other did, and they are parted again. It
-- counts no look

abbrev pub told_taken : QueueView → List QueuedMessage → QueueView
told_taken putter taken = record putter { taken = taken }

abbrev pub views_met : SeatView → SeatView → SeatView
views_met (Takes taker) (Puts putter) = Meets putter taker
views_met view other = view

-- what each did is what the other knows, and the queue holds the rest
-- rule: PORT-18
pub record AreMet (p t : QueueView) : Type 0 where
  pub few : length p.put ≤ length t.taken + p.depth
  pub put : BeginsWith p.put t.put
  pub all : BeginsWith p.put t.taken
  pub known : BeginsWith t.taken p.taken

-- the taker knows all that was put, and where number 0 is
abbrev pub told_put : QueueView → QueueView → QueueView
told_put taker putter = record taker { put = putter.put; start = putter.start; sure = true }

abbrev pub ends_learn : QueueSeat → ℕ → QueueSeat → Type 0
ends_learn me found me' = (me' ≡ (Meets (told_taken (putter_in me.0) (taker_in me.0).taken) (told_put (taker_in me.0) (putter_in me.0)), me.1)) × AreMet (putter_in me.0) (taker_in me.0)
