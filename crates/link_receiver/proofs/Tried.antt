-- Each message that a frame brings to a queuing port tries its queue once.
use Rattle.std.proofs.Common.{◌≡◌, ◌∙◌, ap, sym, refl, arith, subst, ⊎_elim, ℕ, zero, suc, ◌+◌, ◌<◌, ◌&&◌, Bool, true, false, List, [], ◌∷◌, length, Option, None, Some, IfSome, if◌then◌else◌}
use Rattle.std.specs.List.{slice_get}
use Rattle.std.proofs.lemmas.Bool.{cases_eq, eq-eqb, eqb-true, ne_eqb}
use Rattle.es_base.specs.declared.place.PortNo.{PortNo}
use Rattle.es_base.specs.declared.port.PortKind.{PortKind}
use Rattle.es_base.specs.declared.port.PortKind.TheVariants.{Sampling, Queuing}
use Rattle.es_base.specs.declared.event.Message.{Message}
use Rattle.es_base.specs.Port.{Port}
use Rattle.link_rules.specs.Outcome as way
use Rattle.link_rules.specs.Deliveries.{delivered, is_same_port, takes_one_more}
use Rattle.es_base.proofs.Elements.{slice_get-set_other, slice_get-set_same, there}
use Rattle.queuing_port.specs.Queue.{KnownQueue}
use Rattle.link_core.specs.Counted.{port_no}
use Rattle.link_core.proofs.Brings.{IsForPort}
use Rattle.link_receiver.specs.declared.ends.PortEnd.{PortEnd}
use Rattle.link_receiver.specs.declared.outlet.Outlet.{Outlet}
use Rattle.link_receiver.specs.declared.outlet.Outlet.TheVariants as outlets
use Rattle.link_receiver.specs.Kept.{IsTried, brings_to}
use Rattle.link_receiver.specs.Outlet.{Accepts, ArePortsOpened, Delivers, Delivery, FitsOutlet, IsOfKind, IsOpenedAs, Meets, messages_at}

-- ---- before any message, and at a meeting

one_untried : (place : ℕ) (name : List ℕ) (kind : PortKind) (outlet : Outlet) (end : PortEnd) → IsOpenedAs place name kind outlet end → IsTried (Some outlet) 0
one_untried place name (Sampling refresh) outlet end is = rw is.1 tt
one_untried place name (Queuing depth) outlet end is = rw is.1 refl

pub opened_untried : (first : ℕ) (ports : List Port) (opened : List Outlet) (ends : List PortEnd) → ArePortsOpened first ports opened ends → (place : ℕ) → IsTried (slice_get opened place) 0
opened_untried first [] [] [] are place = tt
opened_untried first (port ∷ ports) (outlet ∷ opened) (end ∷ ends) are zero = one_untried first port.name port.kind outlet end are.0
opened_untried first (port ∷ ports) (outlet ∷ opened) (end ∷ ends) are (suc place) = opened_untried (first + 1) ports opened ends are.1 place
opened_untried first (port ∷ ports) (outlet ∷ opened) [] are place = absurd are
opened_untried first (port ∷ ports) [] ends are place = absurd are
opened_untried first [] (outlet ∷ opened) ends are place = absurd are
opened_untried first [] [] (end ∷ ends) are place = absurd are

pub met_tried : (before : Outlet) (taker : KnownQueue) (after : Outlet) (met : KnownQueue) (held count : ℕ) → Meets before taker after met held → IsTried (Some before) count → IsTried (Some after) count
met_tried (outlets.Queuing queue) taker after met held count meets tried = rw meets.0 tried
met_tried (outlets.Sampling writer) taker after met held count meets tried = absurd meets

-- ---- after one more message

-- whether a delivery is for this port
abbrev pub goes_to : Option Delivery → PortNo → Bool
goes_to None port = false
goes_to (Some delivery) port = is_same_port delivery.port port

accepted_tried : (outlet : Outlet) (message : Message) (after : Outlet) (room : Bool) (count : ℕ) → Accepts outlet message after room → IsTried (Some outlet) count → IsTried (Some after) (count + 1)
accepted_tried (outlets.Sampling writer) message after room count is tried = rw is.1 tt
accepted_tried (outlets.Queuing queue) message after true count is tried = rw is (ap (λ (n : ℕ). n + 1) tried)
accepted_tried (outlets.Queuing queue) message after false count is tried = rw is.0 (ap (λ (n : ℕ). n + 1) tried)

no_more : (count : ℕ) → count + 0 ≡ count
no_more count = omega arith

tried_delivered : (before : PortNo → ℕ) (delivery : Option Delivery) (room : Bool) (outlets after : List Outlet)
    → Delivers outlets after delivery room → IfSome delivery (λ d. d.port.0 < length outlets)
    → ((port : ℕ) → IsTried (slice_get outlets port) (before (port_no port)))
    → (port : ℕ) → IsTried (slice_get after port) (before (port_no port) + (if goes_to delivery (port_no port) then 1 else 0))
tried_delivered before None room outlets after is within tried port = rw (is.0, no_more) (tried port)
tried_delivered before (Some delivery) room outlets after is within tried port =
    let place = delivery.port.0 in
    let old = there outlets place within in
    let new = is old.0 old.1 in
    let at_place : IsTried (slice_get after place) (before (port_no place) + (if goes_to (Some delivery) (port_no place) then 1 else 0)) =
    rw (new.2, slice_get-set_same outlets place _ within, eq-eqb place place refl) (accepted_tried old.0 delivery.message new.0 room _ new.1 (rw old.1 at (tried place))) in
    ⊎_elim
    (λ (same : port ≡ place).
    let P : ℕ → Type 0 = λ q. IsTried (slice_get after q) (before (port_no q) + (if goes_to (Some delivery) (port_no q) then 1 else 0)) in
    subst P (sym same) at_place)
    (λ (other : port ≡ place → ⊥).
    rw (new.2, slice_get-set_other outlets place port _ other, ne_eqb place port (λ same. other (sym same)), no_more) (tried port))
    (cases_eq port place)

-- ---- a message is given to the queue to which it was brought

abbrev pub IsQueueKind : PortKind → Type 0
IsQueueKind (Queuing depth) = Unit {0}
IsQueueKind (Sampling refresh) = ⊥

abbrev pub IsQueuing : Option Port → Type 0
IsQueuing (Some port) = IsQueueKind port.kind
IsQueuing None = ⊥

-- what this outcome brings to this port is for a queue
abbrev IsForQueue : way.Outcome → PortNo → Type 0
IsForQueue (way.brings payload) port = is_same_port payload.port port ≡ true → IsQueueKind payload.kind
IsForQueue way.out_of_sequence port = Unit {0}
IsForQueue way.redundant port = Unit {0}
IsForQueue (way.refused verdict) port = Unit {0}

is_for_queue : (ports : List Port) (outcome : way.Outcome) (port : ℕ) → IsForPort ports outcome → IsQueuing (slice_get ports port) → IsForQueue outcome (port_no port)
is_for_queue ports way.out_of_sequence port its queuing = tt
is_for_queue ports way.redundant port its queuing = tt
is_for_queue ports (way.refused verdict) port its queuing = tt
is_for_queue ports (way.brings payload) port its queuing = λ same.
    let is = its payload refl in
    let found : slice_get ports port ≡ Some is.port = ap (slice_get ports) (sym (eqb-true payload.port.0 port same)) ∙ is.there in
    let of_queue : IsQueueKind is.port.kind = rw found at queuing in
    rw (← is.kind) of_queue

both_or_none : (brought given : Bool) (kind : PortKind) (count : ℕ) (first second : Message) → (brought ≡ true → IsQueueKind kind)
    → (if brought && takes_one_more kind true count then first ∷ [] else []) ≡ (if given then second ∷ [] else []) → brought ≡ given
both_or_none false false kind count first second queue is = refl
both_or_none false true kind count first second queue is = cc
both_or_none true given (Sampling refresh) count first second queue is = absurd (queue refl)
both_or_none true true (Queuing depth) count first second queue is = refl
both_or_none true false (Queuing depth) count first second queue is = cc

given_none : (given : Bool) (message : Message) → (let none : List Message = [] in none) ≡ (if given then message ∷ [] else []) → false ≡ given
given_none false message is = refl
given_none true message is = cc

brought_as : (outcome : way.Outcome) (time : ℕ) (port : PortNo) (count : ℕ) (delivery : Option Delivery) → IsForQueue outcome port
    → delivered outcome true time port count ≡ messages_at port delivery → brings_to outcome port ≡ goes_to delivery port
brought_as (way.brings payload) time port count (Some delivery) queue is =
    both_or_none (is_same_port payload.port port) (is_same_port delivery.port port) payload.kind count (record { time = time; octets = payload.octets }) delivery.message queue is
brought_as (way.brings payload) time port count None queue is =
    both_or_none (is_same_port payload.port port) false payload.kind count (record { time = time; octets = payload.octets }) (record { time = time; octets = payload.octets }) queue is
brought_as way.out_of_sequence time port count (Some delivery) queue is = given_none (is_same_port delivery.port port) delivery.message is
brought_as way.redundant time port count (Some delivery) queue is = given_none (is_same_port delivery.port port) delivery.message is
brought_as (way.refused verdict) time port count (Some delivery) queue is = given_none (is_same_port delivery.port port) delivery.message is
brought_as way.out_of_sequence time port count None queue is = refl
brought_as way.redundant time port count None queue is = refl
brought_as (way.refused verdict) time port count None queue is = refl

pub is_given : (ports : List Port) (outcome : way.Outcome) (time : ℕ) (number : PortNo → ℕ) (delivery : Option Delivery) → IsForPort ports outcome
    → ((port : PortNo) → delivered outcome true time port (number port) ≡ messages_at port delivery)
    → (port : ℕ) → IsQueuing (slice_get ports port) → brings_to outcome (port_no port) ≡ goes_to delivery (port_no port)
is_given ports outcome time number delivery its delivers port queuing =
    brought_as outcome time (port_no port) (number (port_no port)) delivery (is_for_queue ports outcome port its queuing) (delivers (port_no port))

-- ---- one more frame

kind_tried : (kind : PortKind) (queue : KnownQueue) (n m : ℕ) → IsOfKind kind (outlets.Queuing queue) → (IsQueueKind kind → n ≡ m) → queue.tries ≡ n → queue.tries ≡ m
kind_tried (Queuing depth) queue n m of_kind same tried = tried ∙ same tt
kind_tried (Sampling refresh) queue n m of_kind same tried = absurd of_kind

tried_as : (port : Option Port) (outlet : Option Outlet) (n m : ℕ) → FitsOutlet port outlet → (IsQueuing port → n ≡ m) → IsTried outlet n → IsTried outlet m
tried_as port None n m fits same tried = tt
tried_as port (Some (outlets.Sampling writer)) n m fits same tried = tt
tried_as None (Some (outlets.Queuing queue)) n m fits same tried = absurd fits
tried_as (Some port) (Some (outlets.Queuing queue)) n m fits same tried = kind_tried port.kind queue n m fits same tried

pub tried_more : (ports : List Port) (outcome : way.Outcome) (before : PortNo → ℕ) (delivery : Option Delivery) (room : Bool) (outlets after : List Outlet)
    → Delivers outlets after delivery room → IfSome delivery (λ d. d.port.0 < length outlets)
    → ((place : ℕ) → FitsOutlet (slice_get ports place) (slice_get after place))
    → ((port : ℕ) → IsQueuing (slice_get ports port) → brings_to outcome (port_no port) ≡ goes_to delivery (port_no port))
    → ((port : ℕ) → IsTried (slice_get outlets port) (before (port_no port)))
    → (port : ℕ) → IsTried (slice_get after port) (before (port_no port) + (if brings_to outcome (port_no port) then 1 else 0))
tried_more ports outcome before delivery room outlets after is within fits brought tried port =
    tried_as (slice_get ports port) (slice_get after port) _ _ (fits port)
    (λ queuing. ap (λ (b : Bool). before (port_no port) + (if b then 1 else 0)) (sym (brought port queuing)))
    (tried_delivered before delivery room outlets after is within tried port)
