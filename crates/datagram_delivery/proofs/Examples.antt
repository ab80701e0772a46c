-- The examples.
use Rattle.std.proofs.Common.{◌≡◌, ℕ, Bool, true, false, List, [], ◌∷◌, ◌++◌, refl, arith, subst, Ok, Result, sym, ◌∙◌, inr, ◌+◌, ◌*◌, inl, zero, suc, ◌≤◌, ◌<◌}
use Rattle.std.proofs.lemmas.Bool.{both_ways, false≢true, eqb-true, ne_eqb}
use Rattle.link_rules.proofs.Keys.{key_itself}
use Rattle.es_base.specs.declared.fault.PacketFault.{PacketFault}
use Rattle.link_rules.specs.Fragments as fragments
use Rattle.link_rules.specs.Fragments.{key_of}
use Rattle.es_base.specs.Octets as words
use Rattle.es_base.specs.Packet as packets
use Rattle.link_rules.specs.Outcome as outcomes
use Rattle.es_base.specs.Packet.{PacketParts}
use Rattle.link_rules.specs.Reassembly.{packet_in}
use Rattle.link_rules.specs.Deliveries.{deliveries}
use Rattle.link_rules.specs.Groups.{fate, groups_after, held}
use Rattle.frame_delivery.specs.Sending.{HaveNumbers, events_of_copies, Copy, events_since}
use Rattle.frame_delivery.specs.Network.{KeepsTimes, Timing, ComeWhole}
use Rattle.frame_delivery.specs.Since.{PassTimely, passing_since}
use Rattle.frame_delivery.specs.Examples.{numbering, timing, timed}
use Rattle.datagram_delivery.specs.Splitting.{AreFewInParts, IsLastFragment, groups_after_offers, none_in_parts, pieces_of, IsFront, Offer}
use Rattle.datagram_delivery.specs.Datagrams.{CarryPackets, IsInParts, KeepsPlace, IsNextFront, IsSplitAfter, messages_by, Completes, offers_of}
use Rattle.datagram_delivery.specs.Interleaved.{AreInterleaved, BringDatagrams, SendsNext, carried_offers}
use Rattle.datagram_delivery.specs.Parts.{HaveParts, IsPartOf}
use Rattle.datagram_delivery.specs.Examples.{among_one_another, datagram_at, datagram_octets, datagram_of, eight, first_key, first_third, five_begun, in_two_fragments, last_third, link_of_100, link_with_queue, sixteen_octets, one_identification, packet_sent, part_sent, second_third, message_in_two, three_begun, payload_sent, a_part_before, after_a_part, came_with, first_frame, one_after, one_overtaken, payload_with, second_frame, counted_anew, counting_anew, datagram_before_restart, datagram_of_frame, restarting, sent_with_pause, timing_with_pause}
use Rattle.datagram_delivery.proofs.Arriving.{brought_by}
use Rattle.frame_delivery.proofs.Since.{all_pass_timely, since_is_near, each_forwarded, none_before, short_is_near}
use Rattle.frame_delivery.proofs.Times.{apart_not_late, short_firsts}
use Rattle.frame_delivery.specs.Once.{FirstsInOrder, new_copies}
use Rattle.datagram_delivery.specs.Arriving.{Arrives}
use Rattle.datagram_delivery.proofs.Unused.{unused_is_free}
use Rattle.datagram_delivery.specs.Offers.{offered_in}
use Rattle.es_base.specs.declared.place.Net.TheVariants as nets
use Rattle.std.specs.Prelude.{◌⊎◌, ◌==◌}
use Rattle.datagram_delivery.specs.Counting.{CarryParts, CountsUp, CarriesPart, KeepsCount, TurnsOverLate}
use Rattle.datagram_delivery.proofs.Counting.{turns_over_late}

-- ---- a message in two fragments

numbers_split : HaveNumbers numbering in_two_fragments
numbers_split = (refl, (refl, tt))

split_times : KeepsTimes numbering timing in_two_fragments
split_times = record {
  gaps = λ index. omega arith;
  pauses = λ index is. absurd (false≢true is);
  ways = ((omega arith, omega arith), ((omega arith, omega arith), tt));
  order = (omega arith, (omega arith, tt));
}

split_passes : PassTimely link_with_queue numbering timing [] in_two_fragments
split_passes =
    all_pass_timely link_with_queue numbering timing [] in_two_fragments
    (record { redundancy = refl; first = omega arith; numbers = numbers_split; times = split_times; fits = record { covers = omega arith; restarts = omega arith } })
    (apart_not_late timing (omega arith)) (since_is_near link_with_queue numbering timing [] in_two_fragments split_times (omega arith)) (tt, (tt, tt))

split_carries : CarryPackets packet_sent in_two_fragments
unfolding packets.ones_sum words.u16_at words.u32_at
split_carries = (refl, (refl, tt))

first_front : (limit : ℕ) (ident time : ℕ) → IsFront limit [] (part_sent ident 0 time).offer
first_front limit ident time = record { next = record { begins = refl; good = refl; soon = omega arith }; more = refl }

split_sent : AreInterleaved link_with_queue [] message_in_two
unfolding outcomes.datagram_payload words.u16_at words.u32_at
split_sent = (
  record {
    front = λ more. cc;
    last = λ last. inr (record {
      first = (part_sent 1 0 100).offer;
      during = [];
      earlier = [];
      is = refl;
      parts = record { begins = refl; free = refl; fronts = (λ is. first_front 50000 1 100, tt) };
      room = (λ other begun. cc, tt);
      ends = record { next = record { begins = refl; good = refl; soon = omega arith }; more = refl; after = omega arith };
      admits = refl;
    });
  },
  (
    record {
      front = λ more. record {
        first = (part_sent 1 0 100).offer;
        during = [];
        earlier = [];
        is = refl;
        parts = record { begins = refl; free = refl; fronts = (λ is. first_front 50000 1 100, tt) };
        room = (λ other begun. cc, tt);
      };
      last = λ last. cc;
    },
    tt,
  ),
)

pub split_brings : BringDatagrams link_with_queue (events_of_copies in_two_fragments) message_in_two
split_brings = record {
  copies = in_two_fragments;
  is = refl;
  numbering = numbering;
  timing = timing;
  pass = split_passes;
  packet = packet_sent;
  carry = split_carries;
  offered = refl;
  sent = split_sent;
  few = omega arith;
}

pub split_message_delivered : deliveries link_with_queue (events_of_copies in_two_fragments) (record { 0 = 0 }) ≡ record { time = 1500; octets = sixteen_octets } ∷ []
split_message_delivered = brought_by link_with_queue (events_of_copies in_two_fragments) message_in_two (record { 0 = 0 }) split_brings

-- the frames have parts of one datagram
abbrev read_as : PacketParts → Result PacketParts PacketFault
read_as packet = Ok packet

pub same_packet : (one two : PacketParts) → read_as one ≡ read_as two → one ≡ two
same_packet one two is = cc

pub parts_met : HaveParts 50000 (λ e. datagram_octets) (events_of_copies in_two_fragments)
parts_met = (
  λ packet read. subst (IsPartOf datagram_octets) (same_packet (packet_sent 1) packet (sym split_carries.0 ∙ read)) (record { within = omega arith; octets = refl; ends = λ last. refl }),
  (λ one other read read_too fragment part same soon. refl, tt),
  (
    λ packet read. subst (IsPartOf datagram_octets) (same_packet (packet_sent 0) packet (sym split_carries.1.0 ∙ read)) (record { within = omega arith; octets = refl; ends = λ last. cc }),
    tt,
    tt,
  ),
)

-- four packets, of which the first two begin datagrams and the others end them
pub among_sent : AreInterleaved link_with_queue [] among_one_another
unfolding outcomes.datagram_payload words.u16_at words.u32_at groups_after
among_sent = (
  record { front = λ more. cc; last = λ last. inr second_ends },
  (record { front = λ more. cc; last = λ last. inr first_ends }, (record { front = λ more. second_begins; last = λ last. cc }, (record { front = λ more. first_begins; last = λ last. cc }, tt))),
)
  where
    one : Offer
    one = (part_sent 1 0 100).offer

    two : Offer
    two = (part_sent 2 0 200).offer

    one_ends : Offer
    one_ends = (part_sent 1 1 300).offer

    first_begins : IsNextFront 50000 [] one
    first_begins = record { first = one; during = []; earlier = []; is = refl; parts = record { begins = refl; free = refl; fronts = (λ is. first_front 50000 1 100, tt) }; room = (λ other begun. cc, tt) }

    second_begins : IsNextFront 50000 (one ∷ []) two
    second_begins = record { first = two; during = []; earlier = one ∷ []; is = refl; parts = record { begins = refl; free = refl; fronts = (λ is. first_front 50000 2 200, tt) }; room = (λ other begun. cc, tt) }

    first_ends : IsSplitAfter link_with_queue payload_sent (two ∷ one ∷ []) one_ends
    first_ends = record {
      first = one;
      during = two ∷ [];
      earlier = [];
      is = refl;
      parts = record { begins = refl; free = refl; fronts = (λ is. cc, (λ is. first_front 50000 1 100, tt)) };
      room = (λ other begun. omega arith, (λ other begun. cc, tt));
      ends = record { next = record { begins = refl; good = refl; soon = omega arith }; more = refl; after = omega arith };
      admits = refl;
    }

    second_ends : IsSplitAfter link_with_queue payload_sent (one_ends ∷ two ∷ one ∷ []) (part_sent 2 1 400).offer
    second_ends = record {
      first = two;
      during = one_ends ∷ [];
      earlier = one ∷ [];
      is = refl;
      parts = record { begins = refl; free = refl; fronts = (λ is. cc, (λ is. first_front 50000 2 200, tt)) };
      room = (λ other begun. cc, (λ other begun. cc, tt));
      ends = record { next = record { begins = refl; good = refl; soon = omega arith }; more = refl; after = omega arith };
      admits = refl;
    }

-- ---- one thing isn't met

fifth_parts : IsInParts 50000 first_key [] (part_sent 1 0 100).offer ((part_sent 5 0 500).offer ∷ three_begun)
fifth_parts = record { begins = refl; free = refl; fronts = (λ is. cc, (λ is. cc, (λ is. cc, (λ is. cc, (λ is. first_front 50000 1 100, tt))))) }

fifth_last : IsLastFragment 50000 (pieces_of first_key (carried_offers five_begun)) (part_sent 1 1 600).offer
fifth_last = record { next = record { begins = refl; good = refl; soon = omega arith }; more = refl; after = omega arith }

room_for_four : KeepsPlace 50000 first_key [] (part_sent 1 0 100).offer three_begun
unfolding groups_after
room_for_four = (λ other begun. omega arith, (λ other begun. omega arith, (λ other begun. omega arith, (λ other begun. cc, tt))))

no_room_for_five : KeepsPlace 50000 first_key [] (part_sent 1 0 100).offer ((part_sent 5 0 500).offer ∷ three_begun) → ⊥
unfolding groups_after
no_room_for_five room = let few = room.0 refl refl in absurd (omega (arith, few))

five_sent : AreInterleaved link_with_queue [] five_begun
unfolding groups_after
five_sent = (begins 5 500 (three_begun ++ (part_sent 1 0 100).offer ∷ []) refl, (begins 4 400 _ refl, (begins 3 300 _ refl, (begins 2 200 _ refl, (begins 1 100 _ refl, tt)))))
  where
    begins : (ident time : ℕ) (before : List Offer) → none_in_parts 50000 (groups_after_offers 50000 [] before) (key_of (part_sent ident 0 time).offer.packet) time ≡ true → SendsNext link_with_queue before (part_sent ident 0 time)
    begins ident time before free = record {
      front = λ more. record {
        first = (part_sent ident 0 time).offer;
        during = [];
        earlier = before;
        is = refl;
        parts = record { begins = key_itself (key_of (part_sent ident 0 time).offer.packet); free = free; fronts = (λ is. first_front 50000 ident time, tt) };
        room = (λ other begun. absurd (both_ways _ other (key_itself (key_of (part_sent ident 0 time).offer.packet))), tt);
      };
      last = λ last. cc;
    }

fifth_is_held : fate 50000 (groups_after_offers 50000 [] (carried_offers five_begun)) (part_sent 1 1 600).offer.packet 600 ≡ held
unfolding fate groups_after fragments.octets_below
fifth_is_held = refl

fifth_not_delivered : messages_by link_with_queue ((part_sent 1 1 600).offer ∷ carried_offers five_begun) (record { 0 = 0 }) ≡ []
unfolding fate groups_after fragments.octets_below
fifth_not_delivered = refl

pub fifth_gives_up : IsInParts 50000 first_key [] (part_sent 1 0 100).offer ((part_sent 5 0 500).offer ∷ three_begun) × IsLastFragment 50000 (pieces_of first_key (carried_offers five_begun)) (part_sent 1 1 600).offer
    × KeepsPlace 50000 first_key [] (part_sent 1 0 100).offer three_begun × (KeepsPlace 50000 first_key [] (part_sent 1 0 100).offer ((part_sent 5 0 500).offer ∷ three_begun) → ⊥)
    × AreInterleaved link_with_queue [] five_begun × (AreFewInParts (carried_offers five_begun) → ⊥)
    × (fate 50000 (groups_after_offers 50000 [] (carried_offers five_begun)) (part_sent 1 1 600).offer.packet 600 ≡ held)
    × (messages_by link_with_queue ((part_sent 1 1 600).offer ∷ carried_offers five_begun) (record { 0 = 0 }) ≡ [])
fifth_gives_up = (fifth_parts, fifth_last, room_for_four, no_room_for_five, five_sent, (λ few. let five = few.0 in absurd (omega (arith, five))), fifth_is_held, fifth_not_delivered)

-- two datagrams of one identification

abbrev pub third : ℕ → Bool → List ℕ → PacketParts
third offset more octets = record { source = 167837953; destination = 3772776465; ident = 1; more = more; offset = offset; octets = octets }

abbrev pub head_of_both : List ℕ
head_of_both = 19 ∷ 136 ∷ 19 ∷ 138 ∷ 0 ∷ 24 ∷ 0 ∷ 0 ∷ []

reads_old_first : packet_in (first_third 254) ≡ Ok (third 0 true head_of_both)
unfolding packets.ones_sum words.u16_at words.u32_at
reads_old_first = refl

reads_old_second : packet_in (second_third 1 255) ≡ Ok (third 8 true (eight 1))
unfolding packets.ones_sum words.u16_at words.u32_at
reads_old_second = refl

reads_new_first : packet_in (first_third 2) ≡ Ok (third 0 true head_of_both)
unfolding packets.ones_sum words.u16_at words.u32_at
reads_new_first = refl

reads_new_last : packet_in (last_third 2 4) ≡ Ok (third 16 false (eight 2))
unfolding packets.ones_sum words.u16_at words.u32_at
reads_new_last = refl

pub parts_of_two : HaveParts 99 datagram_at (events_of_copies one_identification)
parts_of_two = (
  λ packet read. subst (IsPartOf (datagram_of 2)) (same_packet (third 16 false (eight 2)) packet (sym reads_new_last ∙ read)) (record { within = omega arith; octets = refl; ends = λ last. refl }),
  (λ one other read read_too fragment part same soon. refl, (λ one other read read_too fragment part same soon. absurd (omega (arith, soon)), (λ one other read read_too fragment part same soon. absurd (omega (arith, soon)), tt))),
  (
    λ packet read. subst (IsPartOf (datagram_of 2)) (same_packet (third 0 true head_of_both) packet (sym reads_new_first ∙ read)) (record { within = omega arith; octets = refl; ends = λ last. cc }),
    (λ one other read read_too fragment part same soon. absurd (omega (arith, soon)), (λ one other read read_too fragment part same soon. absurd (omega (arith, soon)), tt)),
    (
      λ packet read. subst (IsPartOf (datagram_of 1)) (same_packet (third 8 true (eight 1)) packet (sym reads_old_second ∙ read)) (record { within = omega arith; octets = refl; ends = λ last. cc }),
      (λ one other read read_too fragment part same soon. refl, tt),
      (
        λ packet read. subst (IsPartOf (datagram_of 1)) (same_packet (third 0 true head_of_both) packet (sym reads_old_first ∙ read)) (record { within = omega arith; octets = refl; ends = λ last. cc }),
        tt,
        tt,
      ),
    ),
  ),
)

pub not_of_one : HaveParts 100 datagram_at (events_of_copies one_identification) → ⊥
not_of_one have = let same : datagram_of 1 ≡ datagram_of 2 = have.1.1.0 (third 16 false (eight 2)) (third 8 true (eight 1)) reads_new_last reads_old_second refl refl refl (omega arith) in cc

mixed : deliveries link_of_100 (events_of_copies one_identification) (record { 0 = 0 }) ≡ record { time = 200; octets = eight 1 ++ eight 2 } ∷ []
unfolding fate groups_after fragments.octets_below packets.ones_sum words.u16_at words.u32_at outcomes.outcome outcomes.frame_payload outcomes.datagram_payload
mixed = refl

pub are_mixed : HaveParts 99 datagram_at (events_of_copies one_identification) × (HaveParts 100 datagram_at (events_of_copies one_identification) → ⊥)
    × (deliveries link_of_100 (events_of_copies one_identification) (record { 0 = 0 }) ≡ record { time = 200; octets = eight 1 ++ eight 2 } ∷ [])
are_mixed = (parts_of_two, not_of_one, mixed)

-- ---- a message in fragments arrives after a part of another with its identification, and a message after a frame that was overtaken

-- frames that are sent from 60000 on, more than the limit of 50000 later
abbrev timing_after_a_part : Timing
timing_after_a_part = record { sent = λ index. 60000 + 1000 * index; gap = 1000; pause = 2000; least = 100; greatest = 900; wait = 100 }

-- the first fragment of the message, its last, and that of the other
abbrev first_offer : Offer
first_offer = record { packet = packet_sent 0; time = 60100; room = true }

abbrev last_offer : Offer
last_offer = record { packet = packet_sent 1; time = 61500; room = true }

abbrev other_offer : Offer
other_offer = record { packet = packet_sent 0; time = 10; room = true }

abbrev first_copy : Copy
first_copy = came_with nets.A 0 first_frame 60100

part_times : KeepsTimes numbering timing_after_a_part after_a_part
part_times = record {
  gaps = λ index. omega arith;
  pauses = λ index is. absurd (false≢true is);
  ways = ((omega arith, omega arith), ((omega arith, omega arith), tt));
  order = (omega arith, (omega arith, tt));
}

part_passes : PassTimely link_with_queue numbering timing_after_a_part a_part_before after_a_part
part_passes =
    all_pass_timely link_with_queue numbering timing_after_a_part a_part_before after_a_part
    (record { redundancy = refl; first = omega arith; numbers = (refl, (refl, tt)); times = part_times; fits = record { covers = omega arith; restarts = omega arith } })
    (apart_not_late timing_after_a_part (omega arith)) (since_is_near link_with_queue numbering timing_after_a_part a_part_before after_a_part part_times (omega arith))
    ((λ is. omega arith, (λ is. omega arith, tt)), ((λ is. omega arith, (λ is. omega arith, tt)), tt))

part_carries : CarryPackets packet_sent after_a_part
unfolding packets.ones_sum words.u16_at words.u32_at
part_carries = (refl, (refl, tt))

part_offered : offers_of packet_sent (new_copies (passing_since link_with_queue a_part_before (first_copy ∷ []))) ++ offered_in link_with_queue a_part_before ≡ first_offer ∷ other_offer ∷ []
unfolding packets.ones_sum words.u16_at words.u32_at
part_offered = refl

part_completes : IsSplitAfter link_with_queue payload_sent (first_offer ∷ other_offer ∷ []) last_offer
unfolding outcomes.datagram_payload words.u16_at words.u32_at
part_completes = record {
  first = first_offer;
  during = [];
  earlier = other_offer ∷ [];
  is = refl;
  parts = record { begins = refl; free = unused_is_free 50000 (key_of (packet_sent 1)) 60100 (other_offer ∷ []) (λ is. omega arith, tt); fronts = (λ is. record { next = record { begins = refl; good = refl; soon = omega arith }; more = refl }, tt) };
  room = (λ other begun. cc, tt);
  ends = record { next = record { begins = refl; good = refl; soon = omega arith }; more = refl; after = omega arith };
  admits = refl;
}

none_delivered : deliveries link_with_queue (events_since (first_copy ∷ []) a_part_before) (record { 0 = 0 }) ≡ []
unfolding fate groups_after fragments.octets_below packets.ones_sum words.u16_at words.u32_at outcomes.outcome outcomes.frame_payload outcomes.datagram_payload
none_delivered = refl

pub arrives_after_a_part : Arrives link_with_queue (events_since after_a_part a_part_before) payload_sent 61500
arrives_after_a_part = record {
  later = [];
  copy = came_with nets.B 1 second_frame 61500;
  before = first_copy ∷ [];
  old = a_part_before;
  is = refl;
  numbering = numbering;
  timing = timing_after_a_part;
  pass = part_passes;
  packet = packet_sent;
  carry = part_carries;
  counted = refl;
  new = refl;
  completes = subst (λ (offers : List Offer). Completes link_with_queue payload_sent offers last_offer) (sym part_offered) (inr part_completes);
  room = refl;
  few = rw none_delivered (omega arith);
  at = refl;
}

-- ---- a frame that is overtaken, among others

abbrev timing_with_one : Timing
timing_with_one = timed 500 2000 100 650 0

abbrev packet_with : ℕ → PacketParts
packet_with value = record { source = 167837953; destination = 3772776465; ident = 1; more = false; offset = 0; octets = (19 ∷ 136 ∷ 19 ∷ 138 ∷ 0 ∷ 16 ∷ 0 ∷ 0 ∷ []) ++ eight value }

one_times : KeepsTimes numbering timing_with_one (one_after ∷ one_overtaken)
one_times = record {
  gaps = λ index. omega arith;
  pauses = λ index is. absurd (false≢true is);
  ways = ((omega arith, omega arith), ((omega arith, omega arith), ((omega arith, omega arith), ((omega arith, omega arith), tt))));
  order = (omega arith, (omega arith, (omega arith, (omega arith, tt))));
}

one_carries : CarryPackets packet_with (one_after ∷ one_overtaken)
unfolding packets.ones_sum words.u16_at words.u32_at
one_carries = (refl, (refl, (refl, (refl, tt))))

one_completes : (offers : List Offer) → Completes link_with_queue (payload_with 3) offers (record { packet = packet_with 3; time = 1600; room = true })
unfolding outcomes.datagram_payload words.u16_at words.u32_at
one_completes offers = inl (record { whole = refl; admits = refl })

two_delivered : deliveries link_with_queue (events_since one_overtaken []) (record { 0 = 0 }) ≡ record { time = 100; octets = eight 0 } ∷ record { time = 1100; octets = eight 2 } ∷ []
unfolding fate groups_after fragments.octets_below packets.ones_sum words.u16_at words.u32_at outcomes.outcome outcomes.frame_payload outcomes.datagram_payload
two_delivered = refl

one_arrives : Arrives link_with_queue (events_of_copies (one_after ∷ one_overtaken)) (payload_with 3) 1600
one_arrives = record {
  later = [];
  copy = one_after;
  before = one_overtaken;
  old = [];
  is = refl;
  numbering = numbering;
  timing = timing_with_one;
  pass =
      all_pass_timely link_with_queue numbering timing_with_one [] (one_after ∷ one_overtaken)
      (record { redundancy = refl; first = omega arith; numbers = (refl, (refl, (refl, (refl, tt)))); times = one_times; fits = record { covers = omega arith; restarts = omega arith } })
      (record { frames = omega arith; restarts = omega arith }) (since_is_near link_with_queue numbering timing_with_one [] (one_after ∷ one_overtaken) one_times (omega arith)) (none_before link_with_queue (one_after ∷ one_overtaken));
  packet = packet_with;
  carry = each_forwarded (λ copy. packet_in copy.event.frame ≡ Ok (packet_with copy.index)) link_with_queue [] (one_after ∷ one_overtaken) one_carries;
  counted = refl;
  new = refl;
  completes = one_completes _;
  room = refl;
  few = rw two_delivered (omega arith);
  at = refl;
}

pub arrives_after_overtaken : Arrives link_with_queue (events_of_copies (one_after ∷ one_overtaken)) (payload_with 3) 1600 × (FirstsInOrder (passing_since link_with_queue [] one_overtaken) → ⊥)
    × (deliveries link_with_queue (events_of_copies (one_after ∷ one_overtaken)) (record { 0 = 0 })
    ≡ record { time = 100; octets = eight 0 } ∷ record { time = 1100; octets = eight 2 } ∷ record { time = 1600; octets = eight 3 } ∷ [])
unfolding fate groups_after fragments.octets_below packets.ones_sum words.u16_at words.u32_at outcomes.outcome outcomes.frame_payload outcomes.datagram_payload
arrives_after_overtaken = (one_arrives, λ firsts. false≢true (firsts.0 refl), refl)

-- ---- a count of identifications that begins anew too soon mixes two messages

-- ---- the networks keep all

sent_apart : (index : ℕ) → sent_with_pause index + 1000 ≤ sent_with_pause (suc index)
sent_apart zero = omega arith
sent_apart (suc zero) = omega arith
sent_apart (suc (suc index)) = omega arith

pause_kept : (index : ℕ) → restarting.restarts (suc index) ≡ true → sent_with_pause index + 10000 ≤ sent_with_pause (suc index)
pause_kept index is =
    let e : suc index ≡ 2 = eqb-true (suc index) 2 is in
    let one : index ≡ 1 = omega (arith, e) in
    rw one (omega arith)

anew_times : KeepsTimes restarting timing_with_pause counted_anew
anew_times = record {
  gaps = sent_apart;
  pauses = pause_kept;
  ways = ((omega arith, omega arith), ((omega arith, omega arith), ((omega arith, omega arith), ((omega arith, omega arith), tt))));
  order = (omega arith, (omega arith, (omega arith, (omega arith, tt))));
}

anew_whole : ComeWhole link_with_queue restarting timing_with_pause counted_anew
anew_whole = record {
  timely = record { redundancy = refl; first = omega arith; numbers = (refl, (refl, (refl, (refl, tt)))); times = anew_times; fits = record { covers = omega arith; restarts = omega arith } };
  near = (short_is_near link_with_queue restarting timing_with_pause counted_anew anew_times (omega arith)).0;
  losses = (inl (omega arith, λ index after within. later_on index after), (inr refl, (inl (omega arith, λ index after within. first_on index within), (tt, tt))));
  on_time = apart_not_late timing_with_pause (omega arith);
  firsts = short_firsts restarting timing_with_pause counted_anew anew_times (omega arith);
}
  where
    later_on : (index : ℕ) → 2 < index → (index == 2) ≡ false
    later_on index after = ne_eqb index 2 (λ e. omega (arith, e, after))

    first_on : (index : ℕ) → index ≤ 1 → (index == 2) ≡ false
    first_on index within = ne_eqb index 2 (λ e. omega (arith, e, within))

-- ---- the frames have parts of two datagrams

reads_0 : packet_in (first_third 254) ≡ Ok (third 0 true head_of_both)
unfolding packets.ones_sum words.u16_at words.u32_at
reads_0 = refl

reads_1 : packet_in (second_third 1 255) ≡ Ok (third 8 true (eight 1))
unfolding packets.ones_sum words.u16_at words.u32_at
reads_1 = refl

reads_2 : packet_in (first_third 0) ≡ Ok (third 0 true head_of_both)
unfolding packets.ones_sum words.u16_at words.u32_at
reads_2 = refl

reads_4 : packet_in (last_third 2 2) ≡ Ok (third 16 false (eight 2))
unfolding packets.ones_sum words.u16_at words.u32_at
reads_4 = refl

counted_as : (copy : Copy) (value : ℕ) (packet : PacketParts) → packet_in copy.event.frame ≡ Ok packet → datagram_before_restart copy.event ≡ datagram_of value
    → datagram_of (datagram_of_frame copy.index) ≡ datagram_of value → IsPartOf (datagram_of value) packet → packet.ident ≡ 1 → CarriesPart counting_anew datagram_before_restart copy
counted_as copy value packet reads named counted part ident = record {
  of = named ∙ sym counted;
  part = λ other read. subst (IsPartOf (datagram_before_restart copy.event)) (same_packet packet other (sym reads ∙ read)) (subst (λ octets. IsPartOf octets packet) (sym named) part);
  ident = λ other read fragment. subst (λ (one : PacketParts). one.ident ≡ 1) (same_packet packet other (sym reads ∙ read)) ident;
}

anew_counted : CarryParts counting_anew datagram_before_restart counted_anew
anew_counted = (
  counted_as (came_with nets.A 4 (last_third 2 2) 13100) 2 (third 16 false (eight 2)) reads_4 refl refl (record { within = omega arith; octets = refl; ends = λ last. refl }) refl,
  (
    counted_as (came_with nets.A 2 (first_third 0) 11100) 2 (third 0 true head_of_both) reads_2 refl refl (record { within = omega arith; octets = refl; ends = λ last. cc }) refl,
    (
      counted_as (came_with nets.A 1 (second_third 1 255) 1100) 1 (third 8 true (eight 1)) reads_1 refl refl (record { within = omega arith; octets = refl; ends = λ last. cc }) refl,
      (counted_as (came_with nets.A 0 (first_third 254) 100) 1 (third 0 true head_of_both) reads_0 refl refl (record { within = omega arith; octets = refl; ends = λ last. cc }) refl, tt),
    ),
  ),
)

-- ---- the count

anew_up : CountsUp counting_anew
anew_up = record { idents = λ index. omega arith; up = goes_up }
  where
    goes_up : (index : ℕ) → counting_anew.anew (suc index) ≡ false
        → ((counting_anew.datagram (suc index) ≡ counting_anew.datagram index) × (counting_anew.ident (suc index) ≡ counting_anew.ident index)) ⊎ (counting_anew.ident (suc index) ≡ 2)
    goes_up zero on = inl (refl, refl)
    goes_up (suc zero) on = cc
    goes_up (suc (suc index)) on = inl (refl, refl)

anew_turns : (limit : ℕ) → limit ≤ 50000 → TurnsOverLate limit timing_with_pause counting_anew
anew_turns limit short = turns_over_late limit restarting timing_with_pause counting_anew sent_apart pause_kept anew_up (omega (arith, short))

short_kept : KeepsCount 9999 restarting timing_with_pause counting_anew
short_kept = record { turns = anew_turns 9999 (omega arith); pauses = λ index anew. (anew, omega arith) }

pause_too_short : KeepsCount 50000 restarting timing_with_pause counting_anew → ⊥
pause_too_short keeps = let long = (keeps.pauses 1 refl).1 in absurd (omega (arith, long))

anew_mixed : deliveries link_with_queue (events_of_copies counted_anew) (record { 0 = 0 }) ≡ record { time = 13100; octets = eight 1 ++ eight 2 } ∷ []
unfolding fate groups_after fragments.octets_below packets.ones_sum words.u16_at words.u32_at outcomes.outcome outcomes.frame_payload outcomes.datagram_payload
anew_mixed = refl

not_mixed : deliveries (record link_with_queue { reassembly = 9999 }) (events_of_copies counted_anew) (record { 0 = 0 }) ≡ []
unfolding fate groups_after fragments.octets_below packets.ones_sum words.u16_at words.u32_at outcomes.outcome outcomes.frame_payload outcomes.datagram_payload
not_mixed = refl

pub anew_too_soon : ComeWhole link_with_queue restarting timing_with_pause counted_anew × CarryParts counting_anew datagram_before_restart counted_anew × TurnsOverLate 50000 timing_with_pause counting_anew
    × (KeepsCount 50000 restarting timing_with_pause counting_anew → ⊥) × KeepsCount 9999 restarting timing_with_pause counting_anew
    × (deliveries link_with_queue (events_of_copies counted_anew) (record { 0 = 0 }) ≡ record { time = 13100; octets = eight 1 ++ eight 2 } ∷ [])
    × (deliveries (record link_with_queue { reassembly = 9999 }) (events_of_copies counted_anew) (record { 0 = 0 }) ≡ [])
anew_too_soon = (anew_whole, anew_counted, anew_turns 50000 (omega arith), pause_too_short, short_kept, anew_mixed, not_mixed)
