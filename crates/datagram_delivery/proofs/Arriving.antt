-- Datagrams whose fragments are sent among one another are delivered, each once, in the order of ending.
use Rattle.std.proofs.Common.{◌≡◌, ◌∙◌, ap, sym, ℕ, ◌+◌, ◌<◌, ◌≤◌, Bool, true, false, cond, List, [], ◌∷◌, ◌++◌, length, refl, arith, ⊎_elim, append-nil, append_assoc, length-append, subst}
use Rattle.std.proofs.lemmas.Bool.{cases_Bool, and_from, eq-eqb}
use Rattle.es_base.specs.declared.place.PortNo.{PortNo}
use Rattle.es_base.specs.declared.event.Event.{Event}
use Rattle.es_base.specs.declared.event.Message.{Message}
use Rattle.es_base.specs.Limits.{most_samples}
use Rattle.es_base.specs.Packet.{PacketParts}
use Rattle.link_rules.specs.Groups.{Group}
use Rattle.link_rules.specs.Deliveries.{deliveries, number_delivered, delivered, is_same_port, takes_one_more}
use Rattle.es_base.specs.Settings.{Settings}
use Rattle.frame_delivery.specs.Messages.{goes_to, has_room}
use Rattle.frame_delivery.specs.Network.{Timing}
use Rattle.frame_delivery.specs.Once.{new_copies}
use Rattle.frame_delivery.specs.Sending.{Copy, Numbering, events_since}
use Rattle.frame_delivery.specs.Since.{PassTimely, forwarded_since, passing_since}
use Rattle.datagram_delivery.specs.Splitting.{Offer, groups_after_offers}
use Rattle.datagram_delivery.specs.Datagrams.{CarryPackets, messages_by, offers_of, Completes}
use Rattle.datagram_delivery.specs.Offers.{offered_in}
use Rattle.datagram_delivery.specs.Interleaved.{AreInterleaved, BringDatagrams, Carried, SendsNext, carried_offers, messages_ended}
use Rattle.datagram_delivery.proofs.Splits.{front_held}
use Rattle.datagram_delivery.proofs.Offered.{brings_delivers, held_delivers, completed_by, deliveries_by_offers, packets_since, packets_before, completed_in}
use Rattle.std.specs.Prelude.{◌&&◌, if◌then◌else◌}
use Rattle.es_base.specs.Past.{arrival_of}
use Rattle.link_rules.specs.Outcome.{Payload, brings, outcome}
use Rattle.frame_delivery.proofs.Delivered.{takes}
use Rattle.frame_delivery.proofs.Since.{new_if}
use Rattle.datagram_delivery.specs.Arriving.{Arrives, past_before}

number_ended : (port : PortNo) (carried : List Carried) → length (messages_ended port carried) ≤ length carried
number_ended port [] = omega arith
number_ended port (carried ∷ before) =
    let rest = number_ended port before in
    let message : Message = record { time = carried.offer.time; octets = carried.payload.octets } in
    ⊎_elim
    (λ (more : carried.offer.packet.more ≡ true). rw more (omega (arith, rest)))
    (λ (last : carried.offer.packet.more ≡ false).
    ⊎_elim
    (λ (to : goes_to port carried.payload carried.offer.room ≡ true). rw (last, to, length-append (messages_ended port before) (message ∷ [])) (omega (arith, rest)))
    (λ (other : goes_to port carried.payload carried.offer.room ≡ false). rw (last, other) (omega (arith, rest)))
    (cases_Bool (goes_to port carried.payload carried.offer.room)))
    (cases_Bool carried.offer.packet.more)

one_more : (settings : Settings) (port : PortNo) (older : List Offer) (carried : Carried) (before : List Carried) → SendsNext settings (carried_offers before ++ older) carried
    → messages_by settings (carried_offers before ++ older) port ≡ messages_by settings older port ++ messages_ended port before → length (messages_by settings older port) + length before < most_samples
    → messages_by settings (carried.offer ∷ (carried_offers before ++ older)) port ≡ messages_by settings older port ++ messages_ended port (carried ∷ before)
one_more settings port older carried before sends rest few =
    let offers : List Offer = carried_offers before ++ older in
    let groups : List Group = groups_after_offers settings.reassembly [] offers in
    let messages : List Message = messages_by settings offers port in
    let message : Message = record { time = carried.offer.time; octets = carried.payload.octets } in
    ⊎_elim
    (λ (more : carried.offer.packet.more ≡ true).
    ap (λ (new : List Message). messages ++ new) (held_delivers settings groups carried.offer port (length messages) (front_held settings.reassembly offers carried.offer (sends.front more))) ∙ append-nil messages ∙ rest
    ∙ ap (λ (some : List Message). messages_by settings older port ++ some) (sym (ended_more more)))
    (λ (last : carried.offer.packet.more ≡ false).
    let number = number_ended port before in
    let count : length messages < most_samples = rw (rest, length-append (messages_by settings older port) (messages_ended port before)) (omega (arith, number, few)) in
    ap (λ (new : List Message). messages ++ new) (brings_delivers settings groups carried.offer port (length messages) carried.payload (completed_by settings carried.payload offers carried.offer (sends.last last)) count)
    ∙ ap (λ (some : List Message). some ++ cond (goes_to port carried.payload carried.offer.room) (message ∷ []) []) rest ∙ added (goes_to port carried.payload carried.offer.room) message
    ∙ ap (λ (some : List Message). messages_by settings older port ++ some) (sym (ended_last last)))
    (cases_Bool carried.offer.packet.more)
  where
    ended_more : carried.offer.packet.more ≡ true → messages_ended port (carried ∷ before) ≡ messages_ended port before
    ended_more more = rw more refl

    ended_last : carried.offer.packet.more ≡ false
        → messages_ended port (carried ∷ before) ≡ cond (goes_to port carried.payload carried.offer.room) (messages_ended port before ++ record { time = carried.offer.time; octets = carried.payload.octets } ∷ []) (messages_ended port before)
    ended_last last = rw last refl

    added : (goes : Bool) (message : Message)
        → (messages_by settings older port ++ messages_ended port before) ++ cond goes (message ∷ []) [] ≡ messages_by settings older port ++ cond goes (messages_ended port before ++ message ∷ []) (messages_ended port before)
    added true message = append_assoc (messages_by settings older port) (messages_ended port before) (message ∷ [])
    added false message = append-nil (messages_by settings older port ++ messages_ended port before)

all_ended : (settings : Settings) (port : PortNo) (older : List Offer) (carried : List Carried) → AreInterleaved settings older carried → length (messages_by settings older port) + length carried ≤ most_samples
    → messages_by settings (carried_offers carried ++ older) port ≡ messages_by settings older port ++ messages_ended port carried
all_ended settings port older [] sends few = sym (append-nil (messages_by settings older port))
all_ended settings port older (carried ∷ before) sends few =
    one_more settings port older carried before sends.0 (all_ended settings port older before sends.1 (omega (arith, few))) (omega (arith, few))

pub interleaved_delivered : (settings : Settings) (numbering : Numbering) (timing : Timing) (packet : ℕ → PacketParts) (old : List Event) (copies : List Copy) (carried : List Carried) (port : PortNo)
    → PassTimely settings numbering timing old copies → CarryPackets packet (forwarded_since settings old copies) → offers_of packet (new_copies (passing_since settings old copies)) ≡ carried_offers carried
    → AreInterleaved settings (offered_in settings old) carried → number_delivered settings old port + length carried ≤ most_samples
    → deliveries settings (events_since copies old) port ≡ deliveries settings old port ++ messages_ended port carried
interleaved_delivered settings numbering timing packet old copies carried port pass carry same sends few =
    let before = deliveries_by_offers settings old port in
    let number : number_delivered settings old port ≡ length (messages_by settings (offered_in settings old) port) = ap length before in
    deliveries_by_offers settings (events_since copies old) port
    ∙ ap (λ (offers : List Offer). messages_by settings offers port)
    (packets_since settings numbering timing packet old copies pass carry ∙ ap (λ (offers : List Offer). offers ++ offered_in settings old) same)
    ∙ all_ended settings port (offered_in settings old) carried sends (omega (arith, few, number))
    ∙ ap (λ (messages : List Message). messages ++ messages_ended port carried) (sym before)

pub brought_by : (settings : Settings) (past : List Event) (carried : List Carried) (port : PortNo) → BringDatagrams settings past carried → deliveries settings past port ≡ messages_ended port carried
brought_by settings past carried port bring =
    let few = bring.few in
    ap (λ (events : List Event). deliveries settings events port) bring.is
    ∙ interleaved_delivered settings bring.numbering bring.timing bring.packet [] bring.copies carried port bring.pass bring.carry bring.offered bring.sent (omega (arith, few))

-- ---- a message that arrives is delivered

-- ---- what is delivered stays

later_messages : (settings : Settings) (later past : List Event) (port : PortNo) → (more : List Message) × (deliveries settings (later ++ past) port ≡ deliveries settings past port ++ more)
later_messages settings [] past port = ([], sym (append-nil (deliveries settings past port)))
later_messages settings (e ∷ later) past port =
    let (more, is) = later_messages settings later past port in
    let one : List Message = delivered (outcome settings (later ++ past) (arrival_of e)) e.room e.time port (number_delivered settings (later ++ past) port) in
    (more ++ one, ap (λ (messages : List Message). messages ++ one) is ∙ append_assoc (deliveries settings past port) more one)

-- ---- what is brought is delivered

brings_message : (settings : Settings) (past : List Event) (e : Event) (payload : Payload) → outcome settings past (arrival_of e) ≡ brings payload → has_room payload.kind e.room ≡ true
    → number_delivered settings past payload.port < most_samples
    → deliveries settings (e ∷ past) payload.port ≡ deliveries settings past payload.port ++ record { time = e.time; octets = payload.octets } ∷ []
brings_message settings past e payload is room few =
    let same : is_same_port payload.port payload.port ≡ true = eq-eqb _ _ refl in
    let taken : takes_one_more payload.kind e.room (number_delivered settings past payload.port) ≡ true = takes payload.kind e.room (number_delivered settings past payload.port) few ∙ room in
    ap (λ out. deliveries settings past payload.port ++ delivered out e.room e.time payload.port (number_delivered settings past payload.port)) is
    ∙ ap (λ (b : Bool). deliveries settings past payload.port ++ (if b && takes_one_more payload.kind e.room (number_delivered settings past payload.port) then record { time = e.time; octets = payload.octets } ∷ [] else [])) same
    ∙ ap (λ (b : Bool). deliveries settings past payload.port ++ (if b then record { time = e.time; octets = payload.octets } ∷ [] else [])) taken

-- ---- so a message that arrives is delivered

pub arriving_brings : (settings : Settings) (past : List Event) (payload : Payload) (time : ℕ) → (one : Arrives settings past payload time)
    → outcome settings (past_before one) (arrival_of one.copy.event) ≡ brings payload
arriving_brings settings past payload time one =
    let before : List Event = past_before one in
    let offer : Offer = record { packet = one.packet one.copy.index; time = one.copy.event.time; room = one.copy.event.room } in
    let is = new_if settings one.numbering one.timing one.old one.copy one.before one.pass ∙ and_from _ _ one.counted one.new in
    let offered = packets_before settings one.numbering one.timing one.packet one.old one.copy one.before one.pass one.carry is in
    completed_in settings before (arrival_of one.copy.event) one.copy.event.room (one.packet one.copy.index) payload is offered.0
    (subst (λ (offers : List Offer). Completes settings payload offers offer) (sym offered.1) one.completes)

-- right after what was delivered before
pub arriving_is_delivered : (settings : Settings) (past : List Event) (payload : Payload) (time : ℕ) → (one : Arrives settings past payload time)
    → (later : List Message) × (deliveries settings past payload.port ≡ deliveries settings (past_before one) payload.port ++ record { time = time; octets = payload.octets } ∷ later)
arriving_is_delivered settings past payload time one =
    let before : List Event = past_before one in
    let message : Message = record { time = one.copy.event.time; octets = payload.octets } in
    let here : deliveries settings (one.copy.event ∷ before) payload.port ≡ deliveries settings before payload.port ++ message ∷ [] =
    brings_message settings before one.copy.event payload (arriving_brings settings past payload time one) one.room one.few in
    let (more, after) = later_messages settings one.later (one.copy.event ∷ before) payload.port in
    let all : deliveries settings past payload.port ≡ deliveries settings before payload.port ++ message ∷ more =
    ap (λ (past : List Event). deliveries settings past payload.port) one.is ∙ after ∙ ap (λ (messages : List Message). messages ++ more) here
    ∙ append_assoc (deliveries settings before payload.port) (message ∷ []) more in
    (more, subst (λ (at : ℕ). deliveries settings past payload.port ≡ deliveries settings before payload.port ++ record { time = at; octets = payload.octets } ∷ more) (sym one.at) all)
