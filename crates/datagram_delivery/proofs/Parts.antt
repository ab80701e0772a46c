-- A message that is brought to a port is that of a datagram that was sent.
use Rattle.std.proofs.Common.{◌≡◌, ◌∙◌, ap, sym, append-nil, append_assoc, ℕ, Bool, true, false, List, [], ◌∷◌, ◌++◌, inl, inr, Some, Result, Ok, Err, refl, ◌+◌, ◌<◌, Option, None, ⊎_elim, not, length, take, drop, arith}
use Rattle.std.specs.Prelude.{◌&&◌, if◌then◌else◌, ◌==◌}
use Rattle.es_base.specs.declared.event.Arrival.{Arrival}
use Rattle.es_base.specs.declared.event.Event.{Event}
use Rattle.es_base.specs.declared.place.PortNo.{PortNo}
use Rattle.es_base.specs.declared.event.Message.{Message}
use Rattle.es_base.specs.declared.fault.PacketFault.{PacketFault}
use Rattle.es_base.specs.declared.verdict.Verdict.{Verdict}
use Rattle.es_base.specs.declared.verdict.Verdict.TheVariants as verdicts
use Rattle.es_base.specs.Returns.{◌>>=◌, map_err}
use Rattle.std.specs.Result.{result_ok}
use Rattle.es_base.specs.Past.{arrival_of}
use Rattle.es_base.specs.Packet.{PacketParts}
use Rattle.link_rules.specs.Groups.{Fate, Group, bad, fate, held, whole}
use Rattle.link_rules.specs.Integrity.{passes}
use Rattle.link_rules.specs.Reassembly.{groups_by, groups_in, offered, packet_in}
use Rattle.link_rules.specs.Redundancy.{forwarded, is_forwarded, is_redundant}
use Rattle.link_rules.specs.Outcome.{Outcome, Payload, brings, brought, datagram_payload, frame_payload, out_of_sequence, outcome, packet_payload, reassembled, redundant, refused}
use Rattle.link_rules.specs.Deliveries.{delivered, deliveries, is_same_port, number_delivered, takes_one_more}
use Rattle.es_base.specs.Settings.{Settings}
use Rattle.datagram_delivery.specs.Splitting.{Offer, groups_after_offers}
use Rattle.datagram_delivery.specs.Offers.{offered_in, offer_with}
use Rattle.datagram_delivery.specs.Parts.{AreOfOne, AreOfOneWith, HaveParts, HavePartsSince, IsMessageOfDatagram, IsPart, IsUnusedIn, WereSentIn, ComeAfterLimit, AreWhole, IsPartOf, IsWholeIn}
use Rattle.datagram_delivery.proofs.Origins.{Agree, AreParts, AreUnused, Part, handed_on_is_sent, offers_in}
use Rattle.datagram_delivery.proofs.Offered.{groups_by_offers}
use Rattle.std.proofs.lemmas.Bool.{cases_Bool, eqb-true}
use Rattle.es_base.specs.declared.fragment.DatagramKey.{DatagramKey}
use Rattle.link_rules.specs.Fragments.{key_of, is_whole}
use Rattle.frame_delivery.specs.Running.{EachForwarded}
use Rattle.datagram_delivery.specs.Datagrams.{IsUnused}
use Rattle.datagram_delivery.proofs.Rows.{take_all}

-- ---- the parts that reassembly is offered

part_of : (Event → List ℕ) → Event → PacketParts → Part
part_of datagram e packet = record { offer = record { packet = packet; time = e.time; room = e.room }; datagram = datagram e }

part_with : (Event → List ℕ) → Event → Result PacketParts PacketFault → List Part → List Part
part_with datagram e (Ok packet) before = part_of datagram e packet ∷ before
part_with datagram e (Err fault) before = before

part_if : (Event → List ℕ) → Event → Bool → List Part → List Part
part_if datagram e true before = part_with datagram e (packet_in e.frame) before
part_if datagram e false before = before

-- of the frames that come after an old past
parts_in : Settings → (Event → List ℕ) → List Event → List Event → List Part
parts_in settings datagram old [] = []
parts_in settings datagram old (e ∷ past) = part_if datagram e (is_forwarded settings (past ++ old) (arrival_of e)) (parts_in settings datagram old past)

groups_step : (settings : Settings) (datagram : Event → List ℕ) (e : Event) (before : List Part) (standing groups : List Group) → groups ≡ groups_after_offers settings.reassembly standing (offers_in before) → (is : Bool)
    → groups_by settings.reassembly groups (offered is e.frame) e.time ≡ groups_after_offers settings.reassembly standing (offers_in (part_if datagram e is before))
unfolding part_if part_with part_of
groups_step settings datagram e before standing groups same false = same
groups_step settings datagram e before standing groups same true = go (packet_in e.frame)
  where
    go : (read : Result PacketParts PacketFault) → groups_by settings.reassembly groups (result_ok read) e.time ≡ groups_after_offers settings.reassembly standing (offers_in (part_with datagram e read before))
    go (Ok packet) = ap (λ groups. groups_by settings.reassembly groups (Some packet) e.time) same
    go (Err fault) = same

groups_are_those : (settings : Settings) (datagram : Event → List ℕ) (old past : List Event)
    → groups_in settings (past ++ old) ≡ groups_after_offers settings.reassembly (groups_after_offers settings.reassembly [] (offered_in settings old)) (offers_in (parts_in settings datagram old past))
unfolding parts_in
groups_are_those settings datagram old [] = groups_by_offers settings old
groups_are_those settings datagram old (e ∷ past) =
    groups_step settings datagram e (parts_in settings datagram old past) (groups_after_offers settings.reassembly [] (offered_in settings old)) (groups_in settings (past ++ old)) (groups_are_those settings datagram old past)
    (is_forwarded settings (past ++ old) (arrival_of e))

-- ---- they are parts

agree_step : (limit : ℕ) (datagram : Event → List ℕ) (e : Event) (packet : PacketParts) (earlier : Event) (before : List Part) → packet_in e.frame ≡ Ok packet → AreOfOne limit datagram e earlier
    → Agree limit (part_of datagram e packet) before → (is : Bool) → Agree limit (part_of datagram e packet) (part_if datagram earlier is before)
unfolding part_if part_with part_of
agree_step limit datagram e packet earlier before read one agree false = agree
agree_step limit datagram e packet earlier before read one agree true = go (packet_in earlier.frame) refl
  where
    go : (other : Result PacketParts PacketFault) → packet_in earlier.frame ≡ other → Agree limit (part_of datagram e packet) (part_with datagram earlier other before)
    go (Ok other) is = (λ fragment part same soon. one packet other read is fragment part same soon, agree)
    go (Err fault) is = agree

agree_all : (settings : Settings) (limit : ℕ) (datagram : Event → List ℕ) (e : Event) (packet : PacketParts) (old past : List Event) → packet_in e.frame ≡ Ok packet → AreOfOneWith limit datagram e past
    → Agree limit (part_of datagram e packet) (parts_in settings datagram old past)
unfolding parts_in
agree_all settings limit datagram e packet old [] read one = tt
agree_all settings limit datagram e packet old (earlier ∷ past) read one =
    agree_step limit datagram e packet earlier (parts_in settings datagram old past) read one.0 (agree_all settings limit datagram e packet old past read one.1) (is_forwarded settings (past ++ old) (arrival_of earlier))

parts_step : (limit : ℕ) (datagram : Event → List ℕ) (e : Event) (before : List Part) → IsPart datagram e → ((packet : PacketParts) → packet_in e.frame ≡ Ok packet → Agree limit (part_of datagram e packet) before)
    → AreParts limit before → (is : Bool) → AreParts limit (part_if datagram e is before)
unfolding part_if part_with part_of
parts_step limit datagram e before is_part agree are false = are
parts_step limit datagram e before is_part agree are true = go (packet_in e.frame) refl
  where
    go : (read : Result PacketParts PacketFault) → packet_in e.frame ≡ read → AreParts limit (part_with datagram e read before)
    go (Ok packet) is = (is_part packet is, agree packet is, are)
    go (Err fault) is = are

are_parts : (settings : Settings) (datagram : Event → List ℕ) (old past : List Event) → HavePartsSince settings datagram old past → AreParts settings.reassembly (parts_in settings datagram old past)
unfolding parts_in
are_parts settings datagram old [] have = tt
are_parts settings datagram old (e ∷ past) have =
    parts_step settings.reassembly datagram e (parts_in settings datagram old past) have.0 (λ packet read. agree_all settings settings.reassembly datagram e packet old past read have.1)
    (are_parts settings datagram old past have.3) (is_forwarded settings (past ++ old) (arrival_of e))

-- their keys weren't used in the old past
unused_step : (limit : ℕ) (datagram : Event → List ℕ) (old : List Offer) (e : Event) (before : List Part) → IsUnusedIn limit old e → AreUnused limit old before → (is : Bool) → AreUnused limit old (part_if datagram e is before)
unfolding part_if part_with part_of
unused_step limit datagram old e before unused are false = are
unused_step limit datagram old e before unused are true = go (packet_in e.frame) refl
  where
    go : (read : Result PacketParts PacketFault) → packet_in e.frame ≡ read → AreUnused limit old (part_with datagram e read before)
    go (Ok packet) is = (unused packet is, are)
    go (Err fault) is = are

are_unused : (settings : Settings) (datagram : Event → List ℕ) (old past : List Event) → HavePartsSince settings datagram old past → AreUnused settings.reassembly (offered_in settings old) (parts_in settings datagram old past)
unfolding parts_in
are_unused settings datagram old [] have = tt
are_unused settings datagram old (e ∷ past) have =
    unused_step settings.reassembly datagram (offered_in settings old) e (parts_in settings datagram old past) have.2 (are_unused settings datagram old past have.3) (is_forwarded settings (past ++ old) (arrival_of e))

-- ---- what is brought

abbrev reassembled_payload : Settings → PacketParts → Fate → Result Payload Verdict
reassembled_payload settings packet found = do
  datagram ← reassembled packet found
  datagram_payload settings.ports datagram

abbrev read_payload : Settings → List Group → ℕ → Result PacketParts PacketFault → Result Payload Verdict
read_payload settings groups now read = do
  packet ← map_err verdicts.BadHeader read
  packet_payload settings.ports settings.reassembly groups packet now

brought_by : (settings : Settings) (past : List Event) (a : Arrival) (payload : Payload) → outcome settings past a ≡ brings payload → frame_payload settings (groups_in settings past) a ≡ Ok payload
unfolding outcome
brought_by settings past a payload is = go (passes settings past a) (is_redundant settings (forwarded settings past) a) refl refl
  where
    paid : (found : Result Payload Verdict) → brought found ≡ brings payload → found ≡ Ok payload
    paid (Ok other) e = cc
    paid (Err verdict) e = cc

    go : (pass old : Bool) → passes settings past a ≡ pass → is_redundant settings (forwarded settings past) a ≡ old → frame_payload settings (groups_in settings past) a ≡ Ok payload
    go false old e f = let other : out_of_sequence ≡ brings payload = rw e at is in cc
    go true true e f = let other : redundant ≡ brings payload = rw (e, f) at is in cc
    go true false e f = paid (frame_payload settings (groups_in settings past) a) (rw (e, f) at is)

pub brought_since : (settings : Settings) (datagram : Event → List ℕ) (old : List Event) (e : Event) (past : List Event) (payload : Payload) → HavePartsSince settings datagram old (e ∷ past)
    → outcome settings (past ++ old) (arrival_of e) ≡ brings payload → IsMessageOfDatagram settings e.frame (datagram e) payload
unfolding frame_payload part_of
brought_since settings datagram old e past payload have is =
    go (packet_in e.frame) refl (brought_by settings (past ++ old) (arrival_of e) payload is)
  where
    limit : ℕ
    limit = settings.reassembly

    before : List Part
    before = parts_in settings datagram old past

    handed : (packet : PacketParts) → packet_in e.frame ≡ Ok packet → (found : Fate) → fate limit (groups_in settings (past ++ old)) packet e.time ≡ found
        → reassembled_payload settings packet found ≡ Ok payload → IsMessageOfDatagram settings e.frame (datagram e) payload
    handed packet read bad e2 made = cc
    handed packet read held e2 made = cc
    handed packet read (whole octets joined) e2 made =
        let part : Part = part_of datagram e packet in
        let are : AreParts limit (part ∷ before) = (have.0 packet read, agree_all settings limit datagram e packet old past read have.1, are_parts settings datagram old past have.3) in
        let unused : AreUnused limit (offered_in settings old) (part ∷ before) = (have.2 packet read, are_unused settings datagram old past have.3) in
        let same : octets ≡ datagram e = handed_on_is_sent limit (offered_in settings old) part before octets joined are unused (ap (λ groups. fate limit groups packet e.time) (sym (groups_are_those settings datagram old past)) ∙ e2) in
        record {
          packet = packet;
          reads = read;
          joined = joined;
          admits = ap (λ (o : List ℕ). datagram_payload settings.ports (record { destination = packet.destination; joined = joined; octets = o })) (sym same) ∙ made;
        }

    go : (read : Result PacketParts PacketFault) → packet_in e.frame ≡ read → read_payload settings (groups_in settings (past ++ old)) e.time read ≡ Ok payload → IsMessageOfDatagram settings e.frame (datagram e) payload
    go (Ok packet) read made = handed packet read (fate limit (groups_in settings (past ++ old)) packet e.time) refl made
    go (Err fault) read made = cc

-- ---- what a port gets

sent_later : (settings : Settings) (datagram : Event → List ℕ) (port : PortNo) (e : Event) (past : List Event) (messages : List Message) → WereSentIn settings datagram port past messages
    → WereSentIn settings datagram port (e ∷ past) messages
sent_later settings datagram port e past [] sent = tt
sent_later settings datagram port e past (message ∷ later) sent = (inr sent.0, sent_later settings datagram port e past later sent.1)

sent_join : (settings : Settings) (datagram : Event → List ℕ) (port : PortNo) (past : List Event) (one two : List Message) → WereSentIn settings datagram port past one → WereSentIn settings datagram port past two
    → WereSentIn settings datagram port past (one ++ two)
sent_join settings datagram port past [] two sent sent_too = sent_too
sent_join settings datagram port past (message ∷ one) two sent sent_too = (sent.0, sent_join settings datagram port past one two sent.1 sent_too)

sent_here : (settings : Settings) (datagram : Event → List ℕ) (port : PortNo) (e : Event) (past : List Event) (out : Outcome) (before : ℕ)
    → ((payload : Payload) → out ≡ brings payload → IsMessageOfDatagram settings e.frame (datagram e) payload) → WereSentIn settings datagram port (e ∷ past) (delivered out e.room e.time port before)
sent_here settings datagram port e past out_of_sequence before was = tt
sent_here settings datagram port e past redundant before was = tt
sent_here settings datagram port e past (refused verdict) before was = tt
sent_here settings datagram port e past (brings payload) before was = go (is_same_port payload.port port) (takes_one_more payload.kind e.room before) refl
  where
    go : (same takes : Bool) → is_same_port payload.port port ≡ same
        → WereSentIn settings datagram port (e ∷ past) (if same && takes then record { time = e.time; octets = payload.octets } ∷ [] else [])
    go false takes to = tt
    go true false to = tt
    go true true to = (inl (record { payload = payload; of = was payload refl; to = to; time = refl; octets = refl }), tt)

pub all_since : (settings : Settings) (datagram : Event → List ℕ) (old past : List Event) (port : PortNo) → HavePartsSince settings datagram old past
    → (more : List Message) × (deliveries settings (past ++ old) port ≡ deliveries settings old port ++ more) × WereSentIn settings datagram port past more
all_since settings datagram old [] port have = ([], sym (append-nil (deliveries settings old port)), tt)
all_since settings datagram old (e ∷ past) port have =
    let (more, is, sent) = all_since settings datagram old past port have.3 in
    let before : ℕ = number_delivered settings (past ++ old) port in
    let one : List Message = delivered (outcome settings (past ++ old) (arrival_of e)) e.room e.time port before in (
      more ++ one,
      ap (λ (messages : List Message). messages ++ one) is ∙ append_assoc (deliveries settings old port) more one,
      sent_join settings datagram port (e ∷ past) more one (sent_later settings datagram port e past more sent)
          (sent_here settings datagram port e past (outcome settings (past ++ old) (arrival_of e)) before (λ payload brings_it. brought_since settings datagram old e past payload have brings_it)),
    )

-- ---- with no old past

pub parts_alone : (settings : Settings) (datagram : Event → List ℕ) (past : List Event) → HaveParts settings.reassembly datagram past → HavePartsSince settings datagram [] past
parts_alone settings datagram [] have = tt
parts_alone settings datagram (e ∷ past) have = (have.0, have.1, λ packet reads fragment. tt, parts_alone settings datagram past have.2)

-- ---- once the limit is over since all that was forwarded in an old past, any identification may be used

over_unused : (settings : Settings) (key : DatagramKey) (time : ℕ) (old : List Event) → EachForwarded settings (λ e. e.time + settings.reassembly < time) old
    → IsUnused settings.reassembly key time (offered_in settings old)
over_unused settings key time [] over = tt
over_unused settings key time (e ∷ old) over =
    let rest = over_unused settings key time old over.1 in
    ⊎_elim
    (λ (is : is_forwarded settings old (arrival_of e) ≡ true). rw is (go (offered true e.frame) (over.0 is) rest))
    (λ (is : is_forwarded settings old (arrival_of e) ≡ false). rw is rest)
    (cases_Bool (is_forwarded settings old (arrival_of e)))
  where
    go : (packet : Option PacketParts) → e.time + settings.reassembly < time → IsUnused settings.reassembly key time (offered_in settings old)
        → IsUnused settings.reassembly key time (offer_with packet e (offered_in settings old))
    go None over rest = rest
    go (Some packet) over rest = (λ same. over, rest)

pub limit_is_over : (settings : Settings) (datagram : Event → List ℕ) (old past : List Event) → HaveParts settings.reassembly datagram past → ComeAfterLimit settings old past
    → HavePartsSince settings datagram old past
limit_is_over settings datagram old [] have over = tt
limit_is_over settings datagram old (e ∷ past) (part, one, rest) over =
    (part, one, λ packet read fragment. over_unused settings (key_of packet) e.time old over.0, limit_is_over settings datagram old past rest over.1)

-- ---- datagrams that are sent whole aren't mixed, whatever their identifications are

whole_is_part : (datagram : List ℕ) (packet : PacketParts) → is_whole packet ≡ true → packet.octets ≡ datagram → IsPartOf datagram packet
whole_is_part datagram packet is_all same = go (packet.offset == 0) refl is_all
  where
    go : (first : Bool) → (packet.offset == 0) ≡ first → (first && not packet.more) ≡ true → IsPartOf datagram packet
    go false e all = cc
    go true e all =
        let start : packet.offset ≡ 0 = eqb-true packet.offset 0 e in
        let long : length packet.octets ≡ length datagram = ap length same in
        record {
          within = omega (arith, start, long);
          octets = same ∙ sym (ap (λ (n : ℕ). take (length packet.octets) (drop n datagram)) start ∙ ap (λ (n : ℕ). take n datagram) long ∙ take_all datagram);
          ends = λ last. omega (arith, start, long);
        }

whole_agrees : (limit : ℕ) (datagram : Event → List ℕ) (e : Event) (past : List Event) → IsWholeIn datagram e → AreOfOneWith limit datagram e past
whole_agrees limit datagram e [] all = tt
whole_agrees limit datagram e (earlier ∷ past) all = (
  λ one other read read_too fragment part same soon. let both : true ≡ false = sym (all one read).0 ∙ fragment in cc,
  whole_agrees limit datagram e past all,
)

pub whole_have_parts : (limit : ℕ) (datagram : Event → List ℕ) (past : List Event) → AreWhole datagram past → HaveParts limit datagram past
whole_have_parts limit datagram [] all = tt
whole_have_parts limit datagram (e ∷ past) all = (
  λ packet read. let is = all.0 packet read in whole_is_part (datagram e) packet is.0 is.1,
  whole_agrees limit datagram e past all.0,
  whole_have_parts limit datagram past all.1,
)
