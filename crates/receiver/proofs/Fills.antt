-- How full the queue of a port is, by what its outlet shows.
use Rattle.std.proofs.Common.{◌≡◌, ◌∙◌, ap, sym, ℕ, List, length, Option, None, Some, arith, refl}
use Rattle.std.proofs.lemmas.List.{length-map}
use Rattle.es_base.specs.declared.event.Message.{Message}
use Rattle.es_base.specs.declared.port.PortKind.{PortKind}
use Rattle.es_base.specs.declared.port.PortKind.TheVariants.{Sampling, Queuing}
use Rattle.es_base.specs.Port.{Port}
use Rattle.message_ring.specs.declared.rule.QueuedMessage.{QueuedMessage}
use Rattle.receiver.specs.declared.port.PortOutlet.{PortOutlet}
use Rattle.receiver.specs.declared.port.PortOutlet.TheVariants as outlets
use Rattle.receiver.specs.declared.queue.Fill.{Fill}
use Rattle.receiver.specs.Outlet.{ShowsAt}
use Rattle.receiver.specs.Port.{HasFill, ShowsAs, ShowsPort}
use Rattle.receiver.specs.Fill.{IsFillAs, IsFillOfPort}

filled_as : (kind : PortKind) (max : ℕ) (outlet : PortOutlet) (messages : List Message) (fill : Option Fill) → ShowsAs kind max outlet messages → HasFill outlet fill → IsFillAs kind outlet messages fill
filled_as (Sampling refresh) max (outlets.Sampling writer) messages fill shows is = is
filled_as (Queuing depth) max (outlets.Queuing queue) messages (Some fill) shows is =
    let put : length queue.known.put ≡ length messages = sym (length-map queue.known.put (λ (m : QueuedMessage). m.message)) ∙ ap (λ (l : List Message). length l) shows.0 in
    let few = is.1 in
    ((shows.0, is.0 ∙ put, is.2, is.3), omega (arith, few, shows.1))
filled_as (Queuing depth) max (outlets.Queuing queue) messages None shows is = absurd is
filled_as (Sampling refresh) max (outlets.Queuing queue) messages fill shows is = absurd shows
filled_as (Queuing depth) max (outlets.Sampling writer) messages fill shows is = absurd shows

pub filled_at : (port : Option Port) (outlet : PortOutlet) (messages : List Message) (fill : Option Fill) → ShowsAt ShowsPort port (Some outlet) messages → HasFill outlet fill → IsFillOfPort port (Some outlet) messages fill
filled_at None outlet messages fill shows is = absurd shows
filled_at (Some port) outlet messages fill shows is = filled_as port.kind port.max outlet messages fill shows is

-- where there is no outlet, there is no port
pub none_at : (port : Option Port) (messages : List Message) → ShowsAt ShowsPort port None messages → IsFillOfPort port None messages None
none_at None messages shows = refl
none_at (Some port) messages shows = absurd shows
