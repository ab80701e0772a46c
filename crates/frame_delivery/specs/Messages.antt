-- The messages that a partition is to get: that of each frame of which a copy came, once, in the order of sending,
-- with the time of the first copy.
use Rattle.std.specs.Prelude.{◌≡◌, ℕ, zero, suc, nat_lt, map, Bool, true, false, List, [], ◌∷◌, ◌++◌, ◌&&◌, Ok, if◌then◌else◌}
use Rattle.es_base.specs.declared.place.PortNo.{PortNo}
use Rattle.es_base.specs.declared.port.PortKind.{PortKind}
use Rattle.es_base.specs.declared.port.PortKind.TheVariants.{Sampling, Queuing}
use Rattle.es_base.specs.declared.event.Message.{Message}
use Rattle.es_base.specs.Packet.{PacketParts}
use Rattle.link_rules.specs.Fragments.{is_whole}
use Rattle.link_rules.specs.Reassembly.{packet_in}
use Rattle.link_rules.specs.Outcome.{Payload, datagram_payload}
use Rattle.link_rules.specs.Deliveries.{is_same_port}
use Rattle.es_base.specs.Settings.{Settings}
use Rattle.frame_delivery.specs.Sending.{Copy, EachCopy}
use Rattle.frame_delivery.specs.Once.{has_come}

-- a frame carries a message whole: its packet has the whole datagram, which is for a port of the link that admits
-- the message
pub record CarriesWhole (settings : Settings) (payload : Payload) (frame : List ℕ) : Type 0 where
  pub packet : PacketParts
  pub reads : packet_in frame ≡ Ok packet
  pub whole : is_whole packet ≡ true
  pub admits : datagram_payload settings.ports (record { destination = packet.destination; joined = false; octets = packet.octets }) ≡ Ok payload

-- each copy carries the message of its frame
-- rule: DELIV-8
abbrev pub CarryWhole : Settings → (ℕ → Payload) → List Copy → Type 0
CarryWhole settings payload copies = EachCopy (λ before copy. CarriesWhole settings (payload copy.index) copy.event.frame) copies

-- whether a port of this kind takes a message: a sampling port always, a queuing port if its queue has room
abbrev pub has_room : PortKind → Bool → Bool
has_room (Sampling refresh) room = true
has_room (Queuing depth) room = room

-- whether a message is for this port, which takes it
abbrev pub goes_to : PortNo → Payload → Bool → Bool
goes_to port payload room = is_same_port payload.port port && has_room payload.kind room

-- the messages to a port of the frames of which these are copies, in order, but for those whose queue was full
-- rule: DELIV-8
abbrev pub messages_of : (ℕ → Payload) → PortNo → List Copy → List Message
messages_of payload port [] = []
messages_of payload port (copy ∷ before) =
    if goes_to port (payload copy.index) copy.event.room then messages_of payload port before ++ record { time = copy.event.time; octets = (payload copy.index).octets } ∷ []
    else messages_of payload port before

-- no queue was full
-- rule: DELIV-9
abbrev pub HaveRoom : (ℕ → Payload) → List Copy → Type 0
HaveRoom payload copies = EachCopy (λ before copy. has_room (payload copy.index).kind copy.event.room ≡ true) copies

-- ---- all that was sent

-- the octets of the messages to a port of the first n frames, in the order of sending
-- rule: DELIV-9
abbrev pub octets_sent : (ℕ → Payload) → PortNo → ℕ → List (List ℕ)
octets_sent payload port zero = []
octets_sent payload port (suc n) =
    if is_same_port (payload n).port port then octets_sent payload port n ++ (payload n).octets ∷ [] else octets_sent payload port n

-- the octets of some messages
abbrev pub octets_of_messages : List Message → List (List ℕ)
octets_of_messages messages = map (λ message. message.octets) messages

-- a copy came of each of the first n frames, on one network or on both, and of no other
-- rule: DELIV-9
abbrev pub AllCame : ℕ → List Copy → Type 0
AllCame n copies = (index : ℕ) → has_come index copies ≡ nat_lt index n
