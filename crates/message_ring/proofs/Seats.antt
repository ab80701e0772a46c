-- What the steps of a put and of a take make of a seat.
use Rattle.std.proofs.Common.{◌≡◌, ◌∙◌, ap, sym, refl, subst, arith, ◌≤◌, ℕ, List, [], ◌∷◌, length, get_or, Some}
use Rattle.std.specs.List.{slice_get}
use Rattle.std.specs.Vec.{vec_capacity}
use Rattle.atomic_table.specs.Table.{rest}
use Rattle.message_ring.specs.declared.rule.QueuedMessage.{QueuedMessage as Message}
use Rattle.message_ring.specs.declared.slot.Slot.{Slot}
use Rattle.message_ring.specs.declared.rule.SeatView.{SeatView}
use Rattle.message_ring.specs.declared.rule.SeatView.TheVariants.{Puts, Takes}
use Rattle.message_ring.specs.Queue.{queued}
use Rattle.message_ring.specs.Rule.{IsRoomy, in_slot, slot_of_number}
use Rattle.message_ring.specs.Plays.{QueueSeat, putter_in, putter_puts, puts_one, taker_in, taker_takes, takes_one, with_slot_taken}
use Rattle.message_ring.specs.Ends.{MayPutNext, MayTakeNext}
use Rattle.message_ring.proofs.Turns.{May, put_goes_at, take_goes_at}

-- the slot is there to be written or read
pub there : (xs later : List (ℕ × Slot)) (n number : ℕ) (slot : Slot) → xs ≡ (number, slot) ∷ later → n ≡ number → xs ≡ (n, slot) ∷ rest xs
there xs later n number slot is same = is ∙ ap (λ (k : ℕ). (k, slot) ∷ later) (sym same) ∙ ap (λ (l : List (ℕ × Slot)). (n, slot) ∷ rest l) (sym is)

-- and is this one
pub first_is : (xs later : List (ℕ × Slot)) (n number : ℕ) (a slot : Slot) → xs ≡ (n, a) ∷ rest xs → xs ≡ (number, slot) ∷ later → a ≡ slot
first_is xs later n number a slot is is' = ap (λ (l : List (ℕ × Slot)). (get_or l 0 (0, a)).1) (sym is ∙ is')

-- the seat with its slot, which is another now
pub seat_with : (me : QueueSeat) (view : SeatView) (n number : ℕ) (slot written : Slot) → me ≡ (view, (number, slot) ∷ []) → n ≡ number → ◌≡◌ {A = QueueSeat} (me.0, (n, written) ∷ rest me.1) (view, (number, written) ∷ [])
seat_with me view n number slot written is same = λ i. ((is i).0, (same i, written) ∷ rest (is i).1)

-- the slot has room still with the message that was written into it
pub roomy_with : (max : ℕ) (slot before written : Slot) (octets : List ℕ) → IsRoomy max slot → before ≡ slot → vec_capacity before.octets ≤ vec_capacity written.octets
    → written.octets.items ≡ octets → length octets ≤ max → IsRoomy max written
roomy_with max slot before written octets roomy same more are short =
    let enough : max ≤ vec_capacity before.octets = subst (λ (s : Slot). max ≤ vec_capacity s.octets) (sym same) roomy.0 in
    (omega (arith, enough, more), subst (λ (l : List ℕ). length l ≤ max) (sym are) short)

pub put_may_go : (slots id n count len : ℕ) (me me1 : QueueSeat) (slot written : Slot) → MayPutNext me n count len
    → me1 ≡ (Puts (with_slot_taken (putter_in me.0)), (slot_of_number (putter_in me.0) (length (putter_in me.0).put), slot) ∷ []) → IsRoomy (putter_in me.0).max written
    → May slots id (me1.0, (n, written) ∷ rest me1.1) 0 (λ _. count) (λ found. putter_puts (me1.0, (n, written) ∷ rest me1.1) count)
put_may_go slots id n count len me me1 slot written may is roomy =
    put_goes_at slots id _ (with_slot_taken (putter_in me.0)) written count (seat_with me1 _ n _ slot written is may.next_is) may.count_is roomy refl

pub put_done : (n count len : ℕ) (me me1 me2 : QueueSeat) (slot written : Slot) (time : ℕ) (octets : List ℕ) (lost : ℕ) → MayPutNext me n count len
    → me1 ≡ (Puts (with_slot_taken (putter_in me.0)), (slot_of_number (putter_in me.0) (length (putter_in me.0).put), slot) ∷ [])
    → putter_puts (me1.0, (n, written) ∷ rest me1.1) count me2 → written.time ≡ time → written.octets.items ≡ octets → written.lost ≡ lost
    → me2 ≡ (Puts (puts_one (putter_in me.0) (queued time octets lost)), [])
put_done n count len me me1 me2 slot written time octets lost may is told time_is octets_are lost_is =
    let seat = seat_with me1 _ n _ slot written is may.next_is in
    told _ written (ap (λ (m : QueueSeat). m.1) seat)
    ∙ ap (λ (m : QueueSeat). (Puts (puts_one (putter_in m.0) (in_slot written)), [])) seat
    ∙ (λ i. (Puts (puts_one (putter_in me.0) (queued (time_is i) (octets_are i) (lost_is i))), []))

pub take_may_go : (slots id n count room : ℕ) (me me1 : QueueSeat) (slot read : Slot) → MayTakeNext me n count room
    → me1 ≡ (Takes (with_slot_taken (taker_in me.0)), (slot_of_number (taker_in me.0) (length (taker_in me.0).taken), slot) ∷ []) → IsRoomy (taker_in me.0).max slot
    → slice_get (taker_in me.0).put (length (taker_in me.0).taken) ≡ Some (in_slot slot) → read ≡ slot
    → May slots id (me1.0, (n, read) ∷ rest me1.1) 1 (λ _. count) (λ found. taker_takes (me1.0, (n, read) ∷ rest me1.1) count)
take_may_go slots id n count room me me1 slot read may is roomy next same =
    take_goes_at slots id _ (with_slot_taken (taker_in me.0)) read count (seat_with me1 _ n _ slot read is may.next_is) may.count_is
    (subst (IsRoomy (taker_in me.0).max) (sym same) roomy) refl (next ∙ ap (λ (s : Slot). Some (in_slot s)) (sym same))

pub take_done : (n count room : ℕ) (me me1 me2 : QueueSeat) (slot read : Slot) (m : Message) → MayTakeNext me n count room
    → me1 ≡ (Takes (with_slot_taken (taker_in me.0)), (slot_of_number (taker_in me.0) (length (taker_in me.0).taken), slot) ∷ [])
    → taker_takes (me1.0, (n, read) ∷ rest me1.1) count me2 → in_slot read ≡ m → me2 ≡ (Takes (takes_one (taker_in me.0) m), [])
take_done n count room me me1 me2 slot read m may is told message_is =
    let seat = seat_with me1 _ n _ slot read is may.next_is in
    told _ read (ap (λ (m : QueueSeat). m.1) seat)
    ∙ ap (λ (m : QueueSeat). (Takes (takes_one (taker_in m.0) (in_slot read)), [])) seat
    ∙ ap (λ (x : Message). (Takes (takes_one (taker_in me.0) x), [])) message_is
