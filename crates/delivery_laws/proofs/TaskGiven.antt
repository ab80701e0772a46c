-- What a receiver gives to the outlets of a link.
use Rattle.std.proofs.Common.{◌≡◌, subst, ℕ, Bool, List, Some}
use Rattle.std.specs.Prelude.{slice_get}
use Rattle.es_base.specs.declared.event.Message.{Message}
use Rattle.es_base.specs.declared.port.PortKind.{PortKind}
use Rattle.link_rules.specs.Outcome.{Payload}
use Rattle.es_base.specs.Port.{Port}
use Rattle.link_core.specs.Counted.{port_no}
use Rattle.receiver.specs.Link.{IsPorted, Ported}
use Rattle.receiver.specs.Outlet.{ShowsAt}
use Rattle.receiver.specs.Run.{Call, EachHasItsPast}
use Rattle.datagram_delivery.specs.Arriving.{Arrives}
use Rattle.datagram_delivery.specs.Interleaved.{BringDatagrams, Carried}
use Rattle.datagram_delivery.proofs.Arriving.{arriving_is_delivered, brought_by}
use Rattle.datagram_delivery.proofs.Offered.{deliveries_by_offers}
use Rattle.delivery_laws.specs.Task.{DeliversEach, GivesEach, WasGiven, WereGiven, WereOffered}

were_given : {P : Type 0} (shows : Port → P → List Message → Type 0) (link : Ported P) (carried : List Carried) → IsPorted shows link → BringDatagrams link.core.settings link.core.past carried → WereGiven shows link carried
were_given shows link carried is bring at =
    subst (λ (messages : List Message). ShowsAt shows (slice_get link.core.settings.ports at) (slice_get link.outlets at) messages)
    (brought_by link.core.settings link.core.past carried (port_no at) bring) (is.shown at)

was_given : {P : Type 0} (shows : Port → P → List Message → Type 0) (link : Ported P) (payload : Payload) (time : ℕ) → IsPorted shows link → (one : Arrives link.core.settings link.core.past payload time)
    → WasGiven shows link payload time one
was_given shows link payload time is one =
    let (later, same) = arriving_is_delivered link.core.settings link.core.past payload time one in
    (later, subst (λ (messages : List Message). ShowsAt shows (slice_get link.core.settings.ports payload.port.0) (slice_get link.outlets payload.port.0) messages) same (is.shown payload.port.0))

were_offered : {P : Type 0} (shows : Port → P → List Message → Type 0) (link : Ported P) → IsPorted shows link → WereOffered shows link
were_offered shows link is at =
    subst (λ (messages : List Message). ShowsAt shows (slice_get link.core.settings.ports at) (slice_get link.outlets at) messages)
    (deliveries_by_offers link.core.settings link.core.past (port_no at)) (is.shown at)

pub gives_each : {P : Type 0} (shows : Port → P → List Message → Type 0) (link : Ported P) → IsPorted shows link → GivesEach shows link
gives_each shows link is = record {
  offered = were_offered shows link is;
  arrived = λ payload time one. was_given shows link payload time is one;
  brought = λ carried bring. were_given shows link carried is bring;
}

pub delivers_each : {P : Type 0} (shows : Port → P → List Message → Type 0) (answers : PortKind → List Message → Bool → Type 0) (calls : List Call) (links : List (Ported P)) (place : ℕ) (link : Ported P)
    → EachHasItsPast shows answers calls links → slice_get links place ≡ Some link → DeliversEach shows answers calls place link
delivers_each shows answers calls links place link pasts there = let (events, is) = pasts place link there in (events, gives_each shows link is)
