-- What is sent in parts, and that no part is mixed with those of another datagram (RFC 791 3.2).
--
-- Parts are lost, and come twice or in another order; only how late they may come is asked of the networks
-- (`AreOfOne`).
use Rattle.std.specs.Prelude.{◌≡◌, ◌⊎◌, ℕ, ◌+◌, ◌≤◌, ◌<◌, Bool, true, false, List, [], ◌∷◌, length, take, drop, Ok}
use Rattle.es_base.specs.declared.place.PortNo.{PortNo}
use Rattle.es_base.specs.declared.event.Event.{Event}
use Rattle.es_base.specs.declared.event.Message.{Message}
use Rattle.link_rules.specs.Deliveries.{is_same_port}
use Rattle.es_base.specs.Packet.{PacketParts}
use Rattle.link_rules.specs.Fragments.{is_whole, key_of}
use Rattle.link_rules.specs.Groups.{is_same_key}
use Rattle.link_rules.specs.Outcome.{Payload, datagram_payload}
use Rattle.link_rules.specs.Reassembly.{packet_in}
use Rattle.es_base.specs.Settings.{Settings}
use Rattle.frame_delivery.specs.Running.{EachForwarded}
use Rattle.datagram_delivery.specs.Datagrams.{IsUnused}
use Rattle.datagram_delivery.specs.Offers.{offered_in}
use Rattle.datagram_delivery.specs.Splitting.{Offer}

-- a packet has a part of a datagram or the whole of it: the octets from its offset on; and if no more follow, those
-- up to its end
pub record IsPartOf (datagram : List ℕ) (packet : PacketParts) : Type 0 where
  pub within : packet.offset + length packet.octets ≤ length datagram
  pub octets : packet.octets ≡ take (length packet.octets) (drop packet.offset datagram)
  pub ends : packet.more ≡ false → packet.offset + length packet.octets ≡ length datagram

-- what the frame of an event has, if it has a packet, is a part of the datagram that is named for it
abbrev pub IsPart : (Event → List ℕ) → Event → Type 0
IsPart datagram e = (packet : PacketParts) → packet_in e.frame ≡ Ok packet → IsPartOf (datagram e) packet

-- two frames with fragments of one key, the later of which comes within the limit after the other, have parts of one
-- datagram; a frame with a whole datagram may have any key
abbrev pub AreOfOne : ℕ → (Event → List ℕ) → Event → Event → Type 0
AreOfOne limit datagram later earlier =
    (one other : PacketParts) → packet_in later.frame ≡ Ok one → packet_in earlier.frame ≡ Ok other → is_whole one ≡ false → is_whole other ≡ false → is_same_key (key_of other) (key_of one) ≡ true
    → later.time ≤ earlier.time + limit → datagram earlier ≡ datagram later

abbrev pub AreOfOneWith : ℕ → (Event → List ℕ) → Event → List Event → Type 0
AreOfOneWith limit datagram e [] = Unit {0}
AreOfOneWith limit datagram e (earlier ∷ past) = AreOfOne limit datagram e earlier × AreOfOneWith limit datagram e past

-- all frames of a past have parts of datagrams, and no two datagrams in fragments have one key within the limit
-- rule: DELIV-2
abbrev pub HaveParts : ℕ → (Event → List ℕ) → List Event → Type 0
HaveParts limit datagram [] = Unit {0}
HaveParts limit datagram (e ∷ past) = IsPart datagram e × AreOfOneWith limit datagram e past × HaveParts limit datagram past

-- the frame of an event has the whole of a datagram, if it has a packet
abbrev pub IsWholeIn : (Event → List ℕ) → Event → Type 0
IsWholeIn datagram e = (packet : PacketParts) → packet_in e.frame ≡ Ok packet → (is_whole packet ≡ true) × (packet.octets ≡ datagram e)

abbrev pub AreWhole : (Event → List ℕ) → List Event → Type 0
AreWhole datagram [] = Unit {0}
AreWhole datagram (e ∷ past) = IsWholeIn datagram e × AreWhole datagram past

-- no packet with the key of this fragment was offered in an old past within the limit before it
abbrev pub IsUnusedIn : ℕ → List Offer → Event → Type 0
IsUnusedIn limit old e = (packet : PacketParts) → packet_in e.frame ≡ Ok packet → is_whole packet ≡ false → IsUnused limit (key_of packet) e.time old

-- the same of the frames that come after an old past, which may have anything but these keys within the limit
-- rule: DELIV-2
abbrev pub HavePartsSince : Settings → (Event → List ℕ) → List Event → List Event → Type 0
HavePartsSince settings datagram old [] = Unit {0}
HavePartsSince settings datagram old (e ∷ past) =
    IsPart datagram e × AreOfOneWith settings.reassembly datagram e past × IsUnusedIn settings.reassembly (offered_in settings old) e × HavePartsSince settings datagram old past

-- the frames come once the limit is over since each frame that was forwarded in an old past
abbrev pub ComeAfterLimit : Settings → List Event → List Event → Type 0
ComeAfterLimit settings old [] = Unit {0}
ComeAfterLimit settings old (e ∷ past) = EachForwarded settings (λ earlier. earlier.time + settings.reassembly < e.time) old × ComeAfterLimit settings old past

-- a message is the message of a datagram for a port of the link, where this frame has the datagram or a part of it
-- rule: DELIV-2
pub record IsMessageOfDatagram (settings : Settings) (frame datagram : List ℕ) (payload : Payload) : Type 0 where
  pub packet : PacketParts
  pub reads : packet_in frame ≡ Ok packet
  pub joined : Bool
  pub admits : datagram_payload settings.ports (record { destination = packet.destination; joined = joined; octets = datagram }) ≡ Ok payload

-- ---- what a port gets

-- a message at a port, with the time of an event, was sent: it is that of the datagram of this event
pub record WasSent (settings : Settings) (datagram : Event → List ℕ) (port : PortNo) (e : Event) (message : Message) : Type 0 where
  pub payload : Payload
  pub of : IsMessageOfDatagram settings e.frame (datagram e) payload
  pub to : is_same_port payload.port port ≡ true
  pub time : message.time ≡ e.time
  pub octets : message.octets ≡ payload.octets

abbrev pub WasSentIn : Settings → (Event → List ℕ) → PortNo → List Event → Message → Type 0
WasSentIn settings datagram port [] message = ⊥
WasSentIn settings datagram port (e ∷ past) message = WasSent settings datagram port e message ⊎ WasSentIn settings datagram port past message

-- each of some messages was sent
-- rule: DELIV-2
abbrev pub WereSentIn : Settings → (Event → List ℕ) → PortNo → List Event → List Message → Type 0
WereSentIn settings datagram port past [] = Unit {0}
WereSentIn settings datagram port past (message ∷ later) = WasSentIn settings datagram port past message × WereSentIn settings datagram port past later
