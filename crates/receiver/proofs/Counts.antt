-- What waited in a queue, counted after a message, and what it lost.
use Rattle.std.proofs.Common.{◌≡◌, ◌∙◌, ap, refl, sym, ℕ, ◌+◌, ◌-◌, max, Bool, true, false, List, [], ◌∷◌, ◌++◌, append-nil, length, map, arith}
use Rattle.std.proofs.lemmas.List.{length-append, map-append}
use Rattle.es_base.specs.Tally.{one_more}
use Rattle.link_core.specs.Counted.{shown}
use Rattle.link_core.proofs.Numbers.{shown_more}
use Rattle.message_ring.specs.Queue.{BeginsWith, Known, losses_in, queued}
use Rattle.message_ring.specs.declared.rule.QueuedMessage.{QueuedMessage}
use Rattle.message_ring.proofs.Lists.{begins_length}
use Rattle.receiver.specs.Outlet.{CountsAnswer, CountsGiven, message_at}
use Rattle.receiver.specs.Port.{KeepsLosses, LosesPort, PutsMore}
use Rattle.receiver.specs.Queue.{CountedQueue, CountsWaiting}
use Rattle.receiver.specs.declared.port.PortOutlet.TheVariants as outlets

-- ---- over none, and over one

-- no message was put, and the greatest number stays
pub counts_no_message : (old new : CountedQueue) → new.greatest ≡ old.greatest → BeginsWith new.known.taken old.known.taken → CountsWaiting old new 0
counts_no_message old new same told = record { taken = []; each = refl; rising = begins_length _ _ told; greatest = same }

-- a message was put, and what waits then was counted
pub counts_message : (old new : CountedQueue) (message : QueuedMessage) → new.known.put ≡ old.known.put ++ message ∷ [] → BeginsWith new.known.taken old.known.taken
    → new.greatest ≡ max old.greatest (length new.known.put - length new.known.taken) → CountsWaiting old new 1
counts_message old new message put told greatest =
    let long : length new.known.put ≡ length old.known.put + 1 = ap (λ (l : List QueuedMessage). length l) put ∙ length-append old.known.put (message ∷ []) in
    record {
      taken = length new.known.taken ∷ [];
      each = refl;
      rising = (begins_length _ _ told, omega arith);
      greatest = greatest ∙ ap (λ (n : ℕ). max old.greatest (n - length new.known.taken)) long;
    }

-- ---- what was put

pub puts_no_message : (old new : Known) → new.put ≡ old.put → PutsMore old new []
puts_no_message old new same = ([], same ∙ sym (append-nil old.put), refl)

pub puts_message : (old new : Known) (time : ℕ) (octets : List ℕ) (lost : ℕ) → new.put ≡ old.put ++ queued time octets lost ∷ [] → PutsMore old new (message_at time octets ∷ [])
puts_message old new time octets lost put = (queued time octets lost ∷ [], put, refl)

-- ---- what was lost

-- it is as it was
pub keeps_losses : (old new : CountedQueue) → new.known.put ≡ old.known.put → new.lost ≡ old.lost → KeepsLosses (outlets.Queuing old) (outlets.Queuing new)
keeps_losses old new put lost = λ losses since loses. (ap losses_in put ∙ loses.0, lost ∙ loses.1)

-- a queue was asked for room, and counted a refusal
pub counts_answer : (old new : CountedQueue) (room : Bool) → new.known.put ≡ old.known.put → (room ≡ true → new.lost ≡ old.lost) → (room ≡ false → new.lost ≡ one_more old.lost)
    → CountsAnswer LosesPort (outlets.Queuing old) (outlets.Queuing new) room
counts_answer old new true put kept counted = λ losses since loses. (ap losses_in put ∙ loses.0, kept refl ∙ loses.1)
counts_answer old new false put kept counted = λ losses since loses. (ap losses_in put ∙ loses.0, counted refl ∙ ap one_more loses.1 ∙ shown_more true since)

-- a message was put, with what was lost since the one before
pub counts_given : (old new : CountedQueue) (time : ℕ) (octets : List ℕ) → new.known.put ≡ old.known.put ++ queued time octets old.lost ∷ [] → new.lost ≡ 0
    → CountsGiven LosesPort (outlets.Queuing old) (outlets.Queuing new)
counts_given old new time octets put none = λ losses since loses.
    let before : List QueuedMessage = old.known.put in (
      ap losses_in put ∙ map-append (λ (m : QueuedMessage). m.lost) before (queued time octets old.lost ∷ [])
          ∙ (λ i. loses.0 i ++ loses.1 i ∷ []) ∙ sym (map-append shown losses (since ∷ [])),
      none,
    )
