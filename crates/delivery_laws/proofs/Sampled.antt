-- What a sampling port has published is what the run of its link has delivered.
use Rattle.std.proofs.Common.{◌≡◌, ℕ, List}
use Rattle.es_base.specs.declared.event.Message.{Message}
use Rattle.es_base.specs.declared.port.PortKind.{PortKind}
use Rattle.es_base.specs.declared.port.PortKind.TheVariants.{Queuing, Sampling}
use Rattle.link_core.specs.Counted.{port_no}
use Rattle.triple_buffer.specs.Moments.{BufferState}
use Rattle.mailbox_port.specs.Port.{PortEnd}
use Rattle.receiver.specs.declared.port.PortOutlet.{PortOutlet}
use Rattle.receiver.specs.declared.port.PortOutlet.TheVariants as outlets
use Rattle.receiver.specs.Link.{Ported, deliveries_of}
use Rattle.receiver.specs.Port.{ShowsAs, ShowsPort}
use Rattle.delivery_laws.specs.Reads.{IsMomentAt}

sampled : (kind : PortKind) (max : ℕ) (writer : PortEnd) (messages : List Message) → ShowsAs kind max (outlets.Sampling writer) messages → writer.published ≡ messages
sampled (Sampling refresh) max writer messages shows = shows.0
sampled (Queuing depth) max writer messages shows = absurd shows

pub all_delivered : (link : Ported PortOutlet) (place longest : ℕ) (s : BufferState) → (one : IsMomentAt link place longest s) → one.writer.published ≡ deliveries_of link (port_no place)
all_delivered link place longest s one =
    let shows : ShowsPort one.port (outlets.Sampling one.writer) (deliveries_of link (port_no place)) = rw (one.there, one.outlet) at (one.ported.shown place) in
    sampled one.port.kind one.port.max one.writer (deliveries_of link (port_no place)) shows
