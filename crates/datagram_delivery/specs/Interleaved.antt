-- Datagrams whose fragments a sender sends among one another, as its sub-virtual links do.
--
-- All lists have the latest first but lists of messages.
use Rattle.std.specs.Prelude.{◌≡◌, ◌≤◌, ℕ, true, false, List, [], ◌∷◌, ◌++◌, length, if◌then◌else◌}
use Rattle.es_base.specs.declared.event.Event.{Event}
use Rattle.es_base.specs.declared.place.PortNo.{PortNo}
use Rattle.es_base.specs.declared.event.Message.{Message}
use Rattle.es_base.specs.Limits.{most_samples}
use Rattle.link_rules.specs.Outcome.{Payload}
use Rattle.es_base.specs.Packet.{PacketParts}
use Rattle.es_base.specs.Settings.{Settings}
use Rattle.frame_delivery.specs.Messages.{goes_to}
use Rattle.frame_delivery.specs.Network.{Timing}
use Rattle.frame_delivery.specs.Once.{new_copies}
use Rattle.frame_delivery.specs.Sending.{Copy, Numbering, events_of_copies}
use Rattle.frame_delivery.specs.Since.{PassTimely, forwarded_since, passing_since}
use Rattle.datagram_delivery.specs.Datagrams.{CarryPackets, Completes, IsNextFront, offers_of}
use Rattle.datagram_delivery.specs.Splitting.{Offer}

-- a packet that is offered, and the message of its datagram
pub record Carried : Type 0 where
  pub offer : Offer
  pub payload : Payload

abbrev pub carried_offers : List Carried → List Offer
carried_offers [] = []
carried_offers (carried ∷ before) = carried.offer ∷ carried_offers before

-- a packet is sent after others: it is the next fragment of its datagram, or completes the message
pub record SendsNext (settings : Settings) (before : List Offer) (carried : Carried) : Type 0 where
  pub front : carried.offer.packet.more ≡ true → IsNextFront settings.reassembly before carried.offer
  pub last : carried.offer.packet.more ≡ false → Completes settings carried.payload before carried.offer

-- these packets are sent, after older ones
-- rule: DELIV-11
abbrev pub AreInterleaved : Settings → List Offer → List Carried → Type 0
AreInterleaved settings older [] = Unit {0}
AreInterleaved settings older (carried ∷ before) = SendsNext settings (carried_offers before ++ older) carried × AreInterleaved settings older before

-- the messages to a port, in order, each with the time of its last packet, but for those whose queue was full then
-- rule: DELIV-11
abbrev pub messages_ended : PortNo → List Carried → List Message
messages_ended port [] = []
messages_ended port (carried ∷ before) =
    if carried.offer.packet.more then messages_ended port before
    else if goes_to port carried.payload carried.offer.room then messages_ended port before ++ record { time = carried.offer.time; octets = carried.payload.octets } ∷ []
    else messages_ended port before

-- These events of a link are copies of a sender's frames, of which those that pass come in time; and those of them that are
-- of a later frame than all before have the packets of these datagrams.
pub record BringDatagrams (settings : Settings) (past : List Event) (carried : List Carried) : Type 0 where
  pub copies : List Copy
  pub is : past ≡ events_of_copies copies
  pub numbering : Numbering
  pub timing : Timing
  pub pass : PassTimely settings numbering timing [] copies
  pub packet : ℕ → PacketParts
  pub carry : CarryPackets packet (forwarded_since settings [] copies)
  pub offered : offers_of packet (new_copies (passing_since settings [] copies)) ≡ carried_offers carried
  pub sent : AreInterleaved settings [] carried
  pub few : length carried ≤ most_samples
