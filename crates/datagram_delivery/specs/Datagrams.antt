-- The packets of frames and the messages that ports get of them; and the datagram of a message, whole or in fragments.
--
-- All lists have the latest first but lists of messages.
use Rattle.std.specs.Prelude.{◌≡◌, ℕ, true, false, List, [], ◌∷◌, ◌++◌, length, Ok, ◌+◌, ◌<◌, ◌⊎◌}
use Rattle.es_base.specs.declared.fragment.DatagramKey.{DatagramKey}
use Rattle.es_base.specs.declared.place.PortNo.{PortNo}
use Rattle.es_base.specs.declared.event.Message.{Message}
use Rattle.es_base.specs.Packet.{PacketParts}
use Rattle.link_rules.specs.Fragments.{is_whole, key_of}
use Rattle.link_rules.specs.Reassembly.{packet_in}
use Rattle.link_rules.specs.Outcome.{Payload, brought, datagram_payload, packet_payload}
use Rattle.link_rules.specs.Deliveries.{delivered}
use Rattle.es_base.specs.Settings.{Settings}
use Rattle.frame_delivery.specs.Sending.{Copy, EachCopy}
use Rattle.datagram_delivery.specs.Splitting.{AreFronts, IsLastFragment, Offer, LeavesRoom, groups_after_offers, is_of, joined, pieces_of, none_in_parts}

-- ---- the packets of the frames

-- each copy has the packet of its frame
-- rule: DELIV-7
abbrev pub CarryPackets : (ℕ → PacketParts) → List Copy → Type 0
CarryPackets packet copies = EachCopy (λ before copy. packet_in copy.event.frame ≡ Ok (packet copy.index)) copies

-- the packets of some copies, with their times
abbrev pub offers_of : (ℕ → PacketParts) → List Copy → List Offer
offers_of packet [] = []
offers_of packet (copy ∷ before) = record { packet = packet copy.index; time = copy.event.time; room = copy.event.room } ∷ offers_of packet before

-- the messages that a port gets if these are offered, each once
-- rule: DELIV-7
abbrev pub messages_by : Settings → List Offer → PortNo → List Message
messages_by settings [] port = []
messages_by settings (offer ∷ before) port =
    messages_by settings before port
    ++ delivered (brought (packet_payload settings.ports settings.reassembly (groups_after_offers settings.reassembly [] before) offer.packet offer.time)) offer.room offer.time port
    (length (messages_by settings before port))

-- ---- one datagram

-- a datagram that is sent whole
pub record IsSentWhole (settings : Settings) (payload : Payload) (offer : Offer) : Type 0 where
  pub whole : is_whole offer.packet ≡ true
  pub admits : datagram_payload settings.ports (record { destination = offer.packet.destination; joined = false; octets = offer.packet.octets }) ≡ Ok payload

-- Fragments of a datagram that more follow, among other packets: `first` is its first fragment, `during` came after it,
-- and `earlier` before. No datagram with its key was in parts as it began.
pub record IsInParts (limit : ℕ) (key : DatagramKey) (earlier : List Offer) (first : Offer) (during : List Offer) : Type 0 where
  pub begins : is_of key first ≡ true
  pub free : none_in_parts limit (groups_after_offers limit [] earlier) key first.time ≡ true
  pub fronts : AreFronts limit key (during ++ first ∷ [])

-- and of the groups that others begin after it at most three stand at a time
-- rule: DELIV-11, DELIV-12
abbrev pub KeepsPlace : ℕ → DatagramKey → List Offer → Offer → List Offer → Type 0
KeepsPlace limit key earlier first during = LeavesRoom limit (groups_after_offers limit [] earlier) key (during ++ first ∷ [])

-- a fragment that more follow is the next of its datagram
pub record IsNextFront (limit : ℕ) (offers : List Offer) (front : Offer) : Type 0 where
  pub first : Offer
  pub during : List Offer
  pub earlier : List Offer
  pub is : front ∷ offers ≡ during ++ first ∷ earlier
  pub parts : IsInParts limit (key_of front.packet) earlier first during
  pub room : KeepsPlace limit (key_of front.packet) earlier first during

-- a datagram in fragments, of which this is the last
-- rule: DELIV-12
pub record IsSplitAfter (settings : Settings) (payload : Payload) (offers : List Offer) (last : Offer) : Type 0 where
  pub first : Offer
  pub during : List Offer
  pub earlier : List Offer
  pub is : offers ≡ during ++ first ∷ earlier
  pub parts : IsInParts settings.reassembly (key_of last.packet) earlier first during
  pub room : KeepsPlace settings.reassembly (key_of last.packet) earlier first during
  pub ends : IsLastFragment settings.reassembly (pieces_of (key_of last.packet) (during ++ first ∷ [])) last
  pub admits : datagram_payload settings.ports (record {
    destination = last.packet.destination;
    joined = true;
    octets = joined (pieces_of (key_of last.packet) (during ++ first ∷ [])) ++ last.packet.octets;
  }) ≡ Ok payload

-- with this packet, after these offers, a message is whole: the packet has it, or its last fragment
abbrev pub Completes : Settings → Payload → List Offer → Offer → Type 0
Completes settings payload offers last = IsSentWhole settings payload last ⊎ IsSplitAfter settings payload offers last

-- no packet with this key came within the limit before this time
abbrev pub IsUnused : ℕ → DatagramKey → ℕ → List Offer → Type 0
IsUnused limit key time [] = Unit {0}
IsUnused limit key time (offer ∷ before) = (is_of key offer ≡ true → offer.time + limit < time) × IsUnused limit key time before
