-- What one offer delivers.
use Rattle.std.proofs.Common.{◌≡◌, ap, ℕ, ◌<◌, Bool, true, false, cond, List, [], ◌∷◌, ◌++◌, Ok, refl, ◌∙◌, Option, None, Some, Result, Err, ⊎_elim, append-nil, inl, inr}
use Rattle.es_base.specs.declared.place.PortNo.{PortNo}
use Rattle.es_base.specs.Limits.{most_samples}
use Rattle.es_base.specs.Packet.{PacketParts}
use Rattle.link_rules.specs.Fragments.{is_whole, key_of}
use Rattle.link_rules.specs.Groups.{Group, fate, groups_after, held, whole}
use Rattle.link_rules.specs.Outcome.{Payload, brings, brought, datagram_payload, packet_payload, frame_payload, outcome, refused}
use Rattle.link_rules.specs.Deliveries.{delivered, deliveries, number_delivered}
use Rattle.es_base.specs.Settings.{Settings}
use Rattle.frame_delivery.specs.Messages.{goes_to}
use Rattle.datagram_delivery.specs.Splitting.{Offer, groups_after_offers, joined, pieces_of}
use Rattle.frame_delivery.proofs.Delivered.{takes, forwarded_brings, nothing_delivered}
use Rattle.std.proofs.lemmas.Bool.{cases_Bool}
use Rattle.es_base.specs.declared.event.Arrival.{Arrival}
use Rattle.es_base.specs.declared.event.Event.{Event}
use Rattle.es_base.specs.declared.fault.PacketFault.{PacketFault}
use Rattle.es_base.specs.declared.verdict.Verdict.TheVariants as verdicts
use Rattle.es_base.specs.Past.{arrival_of}
use Rattle.link_rules.specs.Reassembly.{groups_by, groups_in, offered, packet_in}
use Rattle.link_rules.specs.Redundancy.{is_forwarded}
use Rattle.std.specs.Result.{result_ok}
use Rattle.frame_delivery.specs.Sending.{Copy, Numbering, events_since}
use Rattle.frame_delivery.specs.Once.{new_copies}
use Rattle.frame_delivery.specs.Network.{Timing}
use Rattle.frame_delivery.specs.Since.{PassTimely, forwarded_since, passing_since}
use Rattle.frame_delivery.proofs.Since.{news_before, news_since}
use Rattle.datagram_delivery.specs.Datagrams.{CarryPackets, messages_by, offers_of, Completes}
use Rattle.datagram_delivery.specs.Offers.{offer_with, offered_in}
use Rattle.datagram_delivery.proofs.Splits.{last_completes}

-- ---- what an offer delivers

pub held_delivers : (settings : Settings) (groups : List Group) (offer : Offer) (port : PortNo) (number : ℕ) → fate settings.reassembly groups offer.packet offer.time ≡ held
    → delivered (brought (packet_payload settings.ports settings.reassembly groups offer.packet offer.time)) offer.room offer.time port number ≡ []
held_delivers settings groups offer port number is = rw is refl

pub brings_delivers : (settings : Settings) (groups : List Group) (offer : Offer) (port : PortNo) (number : ℕ) (payload : Payload)
    → brought (packet_payload settings.ports settings.reassembly groups offer.packet offer.time) ≡ brings payload → number < most_samples
    → delivered (brought (packet_payload settings.ports settings.reassembly groups offer.packet offer.time)) offer.room offer.time port number
    ≡ cond (goes_to port payload offer.room) (record { time = offer.time; octets = payload.octets } ∷ []) []
brings_delivers settings groups offer port number payload is few = rw (is, takes payload.kind offer.room number few) refl

-- ---- one datagram

pub whole_fate : (limit : ℕ) (groups : List Group) (packet : PacketParts) (now : ℕ) → is_whole packet ≡ true → fate limit groups packet now ≡ whole packet.octets false
unfolding fate
whole_fate limit groups packet now is = rw is refl

pub whole_brings : (settings : Settings) (groups : List Group) (offer : Offer) (octets : List ℕ) (was_joined : Bool) (payload : Payload)
    → fate settings.reassembly groups offer.packet offer.time ≡ whole octets was_joined
    → datagram_payload settings.ports (record { destination = offer.packet.destination; joined = was_joined; octets = octets }) ≡ Ok payload
    → brought (packet_payload settings.ports settings.reassembly groups offer.packet offer.time) ≡ brings payload
whole_brings settings groups offer octets was_joined payload is admits = rw (is, admits) refl

-- ---- what any past delivers, by what it offered; and what copies after it offer

-- ---- any past

pub groups_by_offers : (settings : Settings) (past : List Event) → groups_in settings past ≡ groups_after_offers settings.reassembly [] (offered_in settings past)
groups_by_offers settings [] = refl
groups_by_offers settings (e ∷ past) = go (offered (is_forwarded settings past (arrival_of e)) e.frame) (groups_by_offers settings past)
  where
    go : (one : Option PacketParts) → groups_in settings past ≡ groups_after_offers settings.reassembly [] (offered_in settings past)
        → groups_by settings.reassembly (groups_in settings past) one e.time ≡ groups_after_offers settings.reassembly [] (offer_with one e (offered_in settings past))
    go None rest = rest
    go (Some packet) rest = ap (λ (groups : List Group). groups_after settings.reassembly groups packet e.time) rest

pub packet_brings : (settings : Settings) (past : List Event) (a : Arrival) (packet : PacketParts) → is_forwarded settings past a ≡ true → packet_in a.frame ≡ Ok packet
    → outcome settings past a ≡ brought (packet_payload settings.ports settings.reassembly (groups_in settings past) packet a.time)
unfolding frame_payload
packet_brings settings past a packet is reads = forwarded_brings settings past a is ∙ rw reads refl

forwarded_refused : (settings : Settings) (past : List Event) (a : Arrival) (fault : PacketFault) → is_forwarded settings past a ≡ true → packet_in a.frame ≡ Err fault
    → outcome settings past a ≡ refused (verdicts.BadHeader fault)
unfolding frame_payload
forwarded_refused settings past a fault is reads = forwarded_brings settings past a is ∙ rw reads refl

by_packet : (settings : Settings) (past : List Event) (e : Event) (port : PortNo) → deliveries settings past port ≡ messages_by settings (offered_in settings past) port
    → is_forwarded settings past (arrival_of e) ≡ true → (read : Result PacketParts PacketFault) → packet_in e.frame ≡ read
    → deliveries settings past port ++ delivered (outcome settings past (arrival_of e)) e.room e.time port (number_delivered settings past port)
    ≡ messages_by settings (offer_with (result_ok read) e (offered_in settings past)) port
by_packet settings past e port rest is (Ok packet) reads =
    ap (λ out. deliveries settings past port ++ delivered out e.room e.time port (number_delivered settings past port))
    (packet_brings settings past (arrival_of e) packet is reads ∙ ap (λ groups. brought (packet_payload settings.ports settings.reassembly groups packet e.time)) (groups_by_offers settings past))
    ∙ rw rest refl
by_packet settings past e port rest is (Err fault) reads =
    ap (λ out. deliveries settings past port ++ delivered out e.room e.time port (number_delivered settings past port)) (forwarded_refused settings past (arrival_of e) fault is reads)
    ∙ append-nil (deliveries settings past port) ∙ rest

pub deliveries_by_offers : (settings : Settings) (past : List Event) (port : PortNo) → deliveries settings past port ≡ messages_by settings (offered_in settings past) port
deliveries_by_offers settings [] port = refl
deliveries_by_offers settings (e ∷ past) port =
    let rest : deliveries settings past port ≡ messages_by settings (offered_in settings past) port = deliveries_by_offers settings past port in
    ⊎_elim
    (λ (is : is_forwarded settings past (arrival_of e) ≡ true). rw is (by_packet settings past e port rest is (packet_in e.frame) refl))
    (λ (is : is_forwarded settings past (arrival_of e) ≡ false).
    rw is (ap (λ messages. deliveries settings past port ++ messages) (nothing_delivered settings past (arrival_of e) e.room e.time port (number_delivered settings past port) is)
    ∙ append-nil (deliveries settings past port) ∙ rest))
    (cases_Bool (is_forwarded settings past (arrival_of e)))

-- ---- copies after it

pub offers_since : (settings : Settings) (packet : ℕ → PacketParts) (old : List Event) (copies : List Copy) → CarryPackets packet (forwarded_since settings old copies)
    → offered_in settings (events_since copies old) ≡ offers_of packet (forwarded_since settings old copies) ++ offered_in settings old
offers_since settings packet old [] carry = refl
offers_since settings packet old (copy ∷ before) carry =
    ⊎_elim
    (λ (is : is_forwarded settings (events_since before old) (arrival_of copy.event) ≡ true).
    let carries : CarryPackets packet (copy ∷ forwarded_since settings old before) = rw is at carry in
    rw (is, carries.0) (ap (λ (offers : List Offer). record { packet = packet copy.index; time = copy.event.time; room = copy.event.room } ∷ offers) (offers_since settings packet old before carries.1)))
    (λ (is : is_forwarded settings (events_since before old) (arrival_of copy.event) ≡ false). rw is (offers_since settings packet old before (rw is at carry)))
    (cases_Bool (is_forwarded settings (events_since before old) (arrival_of copy.event)))

pub packets_since : (settings : Settings) (numbering : Numbering) (timing : Timing) (packet : ℕ → PacketParts) (old : List Event) (copies : List Copy) → PassTimely settings numbering timing old copies
    → CarryPackets packet (forwarded_since settings old copies)
    → offered_in settings (events_since copies old) ≡ offers_of packet (new_copies (passing_since settings old copies)) ++ offered_in settings old
packets_since settings numbering timing packet old copies pass carry =
    offers_since settings packet old copies carry
    ∙ ap (λ (some : List Copy). offers_of packet some ++ offered_in settings old) (news_since settings numbering timing old copies pass).0

-- before one that is forwarded
pub packets_before : (settings : Settings) (numbering : Numbering) (timing : Timing) (packet : ℕ → PacketParts) (old : List Event) (copy : Copy) (before : List Copy)
    → PassTimely settings numbering timing old (copy ∷ before) → CarryPackets packet (forwarded_since settings old (copy ∷ before)) → is_forwarded settings (events_since before old) (arrival_of copy.event) ≡ true
    → (packet_in copy.event.frame ≡ Ok (packet copy.index))
    × (offered_in settings (events_since before old) ≡ offers_of packet (new_copies (passing_since settings old before)) ++ offered_in settings old)
packets_before settings numbering timing packet old copy before pass carry is =
    let carries : CarryPackets packet (copy ∷ forwarded_since settings old before) = rw is at carry in
    (carries.0, offers_since settings packet old before carries.1 ∙ ap (λ (some : List Copy). offers_of packet some ++ offered_in settings old) (news_before settings numbering timing old copy before pass))

-- ---- a packet that completes a message

pub completed_fate : (settings : Settings) (payload : Payload) (offers : List Offer) (last : Offer) → Completes settings payload offers last
    → (octets : List ℕ) × (was_joined : Bool) × (fate settings.reassembly (groups_after_offers settings.reassembly [] offers) last.packet last.time ≡ whole octets was_joined)
    × (datagram_payload settings.ports (record { destination = last.packet.destination; joined = was_joined; octets = octets }) ≡ Ok payload)
completed_fate settings payload offers last (inl all) = (last.packet.octets, false, whole_fate settings.reassembly (groups_after_offers settings.reassembly [] offers) last.packet last.time all.whole, all.admits)
completed_fate settings payload offers last (inr split) = (
  joined (pieces_of (key_of last.packet) (split.during ++ split.first ∷ [])) ++ last.packet.octets,
  true,
  ap (λ (offers : List Offer). fate settings.reassembly (groups_after_offers settings.reassembly [] offers) last.packet last.time) split.is
      ∙ last_completes settings.reassembly split.earlier split.first split.during last split.parts split.room split.ends,
  split.admits,
)

pub completed_by : (settings : Settings) (payload : Payload) (offers : List Offer) (last : Offer) → Completes settings payload offers last
    → brought (packet_payload settings.ports settings.reassembly (groups_after_offers settings.reassembly [] offers) last.packet last.time) ≡ brings payload
completed_by settings payload offers last completes =
    let (octets, was_joined, is, admits) = completed_fate settings payload offers last completes in
    whole_brings settings (groups_after_offers settings.reassembly [] offers) last octets was_joined payload is admits

-- the frame that is forwarded with the packet brings it
pub completed_in : (settings : Settings) (past : List Event) (a : Arrival) (room : Bool) (packet : PacketParts) (payload : Payload) → is_forwarded settings past a ≡ true → packet_in a.frame ≡ Ok packet
    → Completes settings payload (offered_in settings past) (record { packet = packet; time = a.time; room = room }) → outcome settings past a ≡ brings payload
completed_in settings past a has_room packet payload is reads completes =
    packet_brings settings past a packet is reads
    ∙ ap (λ groups. brought (packet_payload settings.ports settings.reassembly groups packet a.time)) (groups_by_offers settings past)
    ∙ completed_by settings payload (offered_in settings past) (record { packet = packet; time = a.time; room = has_room }) completes
