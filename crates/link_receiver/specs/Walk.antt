-- A walk through a link's history: the messages that its events delivered to a port.
use Rattle.std.specs.Prelude.{◌≡◌, ◌≤◌, ℕ, Bool, true, false, List, ◌++◌, length, drop, Option, None, Some, Ok}
use Rattle.std.specs.List.{All}
use Rattle.es_base.specs.declared.event.Event.{Event}
use Rattle.es_base.specs.declared.event.Message.{Message}
use Rattle.es_base.specs.declared.place.PortNo.{PortNo}
use Rattle.link_rules.specs.Deliveries.{deliveries}
use Rattle.link_rules.specs.Groups.{Group, whole, fate}
use Rattle.es_base.specs.Packet.{PacketParts}
use Rattle.es_base.specs.Settings.{Settings}
use Rattle.es_base.specs.Udp.{UdpParts, udp_of}
use Rattle.link_core.specs.Told.{tells_delivered}

-- if an event delivers a message, it is the payload of the UDP datagram that its packet has or
-- completes; where it delivers none, there is none
-- rule: PORT-4
abbrev pub IsMessageOf : Bool → ℕ → List Group → Option PacketParts → ℕ → Option Message → Type 0
IsMessageOf false limit groups packet time message = message ≡ None
IsMessageOf true limit groups packet time message =
    (parts : PacketParts) (octets : List ℕ) (joined : Bool) (udp : UdpParts)
    → packet ≡ Some parts → fate limit groups parts time ≡ whole octets joined → udp_of octets ≡ Ok udp
    → message ≡ Some (record { time = time; octets = udp.payload })

-- there is this number of events, and none after them delivered a message to the port
-- rule: PORT-4
abbrev pub AreDeliveredBefore : ℕ → PortNo → List Event → Type 0
AreDeliveredBefore end port history = (end ≤ length history) × All (λ e. tells_delivered e.verdict port ≡ false) (drop end history)

-- these are the messages that the events after the earlier ones delivered to a port
abbrev pub AreSince : Settings → List Event → List Event → PortNo → List Message → Type 0
AreSince settings earlier past port messages = deliveries settings (past ++ earlier) port ≡ deliveries settings earlier port ++ messages
