-- A message that overflowed: what its queue had been given, and knew to be taken at its look.
use Rattle.std.proofs.Common.{◌≡◌, ◌∙◌, ap, sym, refl, ℕ, List, Option, None, Some}
use Rattle.std.specs.List.{slice_get}
use Rattle.es_base.specs.declared.event.Arrival.{Arrival}
use Rattle.es_base.specs.declared.event.Message.{Message}
use Rattle.es_base.specs.declared.port.PortKind.{PortKind}
use Rattle.es_base.specs.declared.port.PortKind.TheVariants.{Sampling, Queuing}
use Rattle.es_base.specs.declared.verdict.Verdict.TheVariants.{Overflow}
use Rattle.link_rules.specs.Outcome.{Payload, brings}
use Rattle.es_base.specs.Port.{Port}
use Rattle.link_core.specs.Counted.{port_no}
use Rattle.link_core.specs.Link.{outcome_after}
use Rattle.message_ring.specs.Queue.{messages_in}
use Rattle.receiver.specs.declared.port.PortOutlet.{PortOutlet}
use Rattle.receiver.specs.declared.port.PortOutlet.TheVariants as outlets
use Rattle.receiver.specs.Fill.{IsFoundFull}
use Rattle.receiver.specs.Link.{OverflowsIfRefused, Ported, Takes, deliveries_of}
use Rattle.receiver.specs.Outlet.{ShowsAt}
use Rattle.receiver.specs.Port.{AnswersPort, GivesPort, RefusesPort, ShowsAs, ShowsPort}
use Rattle.receiver.specs.Queue.{CountedQueue}

put_as : (kind : PortKind) (max : ℕ) (queue : CountedQueue) (messages : List Message) → ShowsAs kind max (outlets.Queuing queue) messages → messages_in queue.known.put ≡ messages
put_as (Sampling refresh) max queue messages is = absurd is
put_as (Queuing depth) max queue messages is = is.0

put_at : (port : Option Port) (queue : CountedQueue) (messages : List Message) → ShowsAt ShowsPort port (Some (outlets.Queuing queue)) messages → messages_in queue.known.put ≡ messages
put_at None queue messages shows = absurd shows
put_at (Some port) queue messages shows = put_as port.kind port.max queue messages shows

pub found_full : (old new : Ported PortOutlet) (a : Arrival) (payload : Payload) (place : ℕ) → Takes ShowsPort GivesPort AnswersPort old new a place (Overflow payload.port)
    → OverflowsIfRefused RefusesPort old new a (Overflow payload.port) → outcome_after old.core.settings old.core.past a ≡ brings payload → IsFoundFull old new payload.port
found_full old new a payload place takes refuses is = let r = refuses payload is refl in go r.0 r.1 r.2 r.3 r.4
  where
    go : (before after : PortOutlet) → slice_get old.outlets payload.port.0 ≡ Some before → slice_get new.outlets payload.port.0 ≡ Some after → RefusesPort before after → IsFoundFull old new payload.port
    go (outlets.Queuing before) (outlets.Queuing after) there here full =
        let shows : ShowsAt ShowsPort (slice_get new.core.settings.ports payload.port.0) (Some (outlets.Queuing after)) (deliveries_of new (port_no payload.port.0)) = rw here at (takes.after.shown payload.port.0) in
        let put : messages_in after.known.put ≡ deliveries_of new payload.port = put_at _ after _ shows in
        (before, after, there, here, full.looked, (full.held, full.full, sym put ∙ ap messages_in full.last))
    go (outlets.Sampling before) after there here full = absurd full
    go (outlets.Queuing before) (outlets.Sampling after) there here full = absurd full
