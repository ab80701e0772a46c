-- The example meets what is asked.
use Rattle.std.proofs.Common.{◌≡◌, ℕ, ◌+◌, ◌≤◌, true, List, [], ◌∷◌, Ok, refl, arith, inr}
use Rattle.std.proofs.lemmas.Bool.{false≢true}
use Rattle.es_base.specs.declared.event.Event.{Event}
use Rattle.es_base.specs.declared.verdict.Verdict.{Verdict}
use Rattle.link_rules.specs.Deliveries.{deliveries}
use Rattle.link_rules.specs.Fragments as fragments
use Rattle.link_rules.specs.Fragments.{key_of}
use Rattle.link_rules.specs.Reassembly.{packet_in}
use Rattle.link_rules.specs.Groups as groups
use Rattle.es_base.specs.Octets as words
use Rattle.link_rules.specs.Outcome as outcomes
use Rattle.es_base.specs.Packet as packets
use Rattle.es_base.specs.Past.{AreFramesOf}
use Rattle.link_rules.specs.Run.{IsRun}
use Rattle.frame_delivery.specs.Network.{KeepsTimes, Timing}
use Rattle.frame_delivery.specs.Once.{new_copies}
use Rattle.frame_delivery.specs.Sending.{Copy, HaveNumbers, events_of_copies}
use Rattle.frame_delivery.specs.Since.{PassTimely, passing_since}
use Rattle.frame_delivery.specs.Examples.{numbering, timed}
use Rattle.frame_delivery.proofs.Since.{all_pass_timely, each_forwarded, none_before, since_is_near}
use Rattle.frame_delivery.proofs.Times.{apart_not_late}
use Rattle.datagram_delivery.specs.Splitting.{Offer}
use Rattle.datagram_delivery.specs.Datagrams.{CarryPackets, IsInParts, offers_of}
use Rattle.datagram_delivery.specs.Examples.{packet_sent, part_sent}
use Rattle.datagram_delivery.specs.Interleaved.{AreInterleaved, BringDatagrams, carried_offers}
use Rattle.datagram_delivery.proofs.Arriving.{brought_by}
use Rattle.delivery_example.proofs.Rooms.{three}
use Rattle.delivery_example.specs.Example.{arrival_on_a, first_arrival_on_b, first_on_a, first_on_b, link_with_nav, nav_message, nav, past, past_if_b_is_first, second_arrival_on_b, second_on_b, second_time_on_b, first_time_on_b, time_on_a, sent, sent_if_b_is_first}

-- ---- the events, with whatever verdicts

abbrev pub events : Verdict → Verdict → Verdict → List Event
events one two third = three arrival_on_a first_arrival_on_b second_arrival_on_b (true, true, true) (one, two, third)

abbrev pub events_if_b_is_first : Verdict → Verdict → Verdict → List Event
events_if_b_is_first one two third = three first_arrival_on_b arrival_on_a second_arrival_on_b (true, true, true) (one, two, third)

-- frames that are sent 10 milliseconds apart, 100 to 900 microseconds on their way, and up to 800 taken late
abbrev timing_of_sender : Timing
timing_of_sender = timed 10000 20000 100 900 800

-- as copies of frames with these indices
abbrev copies_of : List ℕ → List Event → List Copy
copies_of [] past = []
copies_of (index ∷ indices) [] = []
copies_of (index ∷ indices) (event ∷ past) = record { index = index; event = event } ∷ copies_of indices past

abbrev indices : List ℕ
indices = 1 ∷ 0 ∷ 0 ∷ []

times : (one two third : Verdict) → KeepsTimes numbering timing_of_sender (copies_of indices (events one two third))
times one two third = record {
  gaps = λ index. omega arith;
  pauses = λ index is. absurd (false≢true is);
  ways = ((omega arith, omega arith), ((omega arith, omega arith), ((omega arith, omega arith), tt)));
  order = (omega arith, (omega arith, (omega arith, tt)));
}

numbers : (one two third : Verdict) → HaveNumbers numbering (copies_of indices (events one two third))
unfolding first_on_a first_on_b second_on_b
numbers one two third = (refl, (refl, (refl, tt)))

times_if_b_is_first : (one two third : Verdict) → KeepsTimes numbering timing_of_sender (copies_of indices (events_if_b_is_first one two third))
times_if_b_is_first one two third = record {
  gaps = λ index. omega arith;
  pauses = λ index is. absurd (false≢true is);
  ways = ((omega arith, omega arith), ((omega arith, omega arith), ((omega arith, omega arith), tt)));
  order = (omega arith, (omega arith, (omega arith, tt)));
}

numbers_if_b_is_first : (one two third : Verdict) → HaveNumbers numbering (copies_of indices (events_if_b_is_first one two third))
unfolding first_on_a first_on_b second_on_b
numbers_if_b_is_first one two third = (refl, (refl, (refl, tt)))

pass_timely : (copies : List Copy) → HaveNumbers numbering copies → KeepsTimes numbering timing_of_sender copies → PassTimely link_with_nav numbering timing_of_sender [] copies
pass_timely copies numbers times =
    all_pass_timely link_with_nav numbering timing_of_sender [] copies
    (record { redundancy = refl; first = omega arith; numbers = numbers; times = times; fits = record { covers = omega arith; restarts = omega arith } })
    (apart_not_late timing_of_sender (omega arith)) (since_is_near link_with_nav numbering timing_of_sender [] copies times (omega arith)) (none_before link_with_nav copies)

carry : (one two third : Verdict) → CarryPackets packet_sent (copies_of indices (events one two third))
unfolding first_on_a first_on_b second_on_b packets.ones_sum words.u16_at words.u32_at
carry one two third = (refl, (refl, (refl, tt)))

carry_if_b_is_first : (one two third : Verdict) → CarryPackets packet_sent (copies_of indices (events_if_b_is_first one two third))
unfolding first_on_a first_on_b second_on_b packets.ones_sum words.u16_at words.u32_at
carry_if_b_is_first one two third = (refl, (refl, (refl, tt)))

offered : (one two third : Verdict) → offers_of packet_sent (new_copies (passing_since link_with_nav [] (copies_of indices (events one two third)))) ≡ carried_offers sent
unfolding first_on_a first_on_b second_on_b
offered one two third = refl

offered_if_b_is_first : (one two third : Verdict) → offers_of packet_sent (new_copies (passing_since link_with_nav [] (copies_of indices (events_if_b_is_first one two third)))) ≡ carried_offers sent_if_b_is_first
unfolding first_on_a first_on_b second_on_b
offered_if_b_is_first one two third = refl

-- the first fragment at this time, and then the second
are_sent : (time : ℕ) → second_time_on_b ≤ time + 50000 → AreInterleaved link_with_nav [] (part_sent 1 1 second_time_on_b ∷ part_sent 1 0 time ∷ [])
unfolding outcomes.datagram_payload words.u16_at words.u32_at
are_sent time soon = (
  record {
    front = λ more. cc;
    last = λ last. inr (record {
      first = first;
      during = [];
      earlier = [];
      is = refl;
      parts = begun;
      room = (λ other begun. cc, tt);
      ends = record { next = record { begins = refl; good = refl; soon = soon }; more = refl; after = omega arith };
      admits = refl;
    });
  },
  (record { front = λ more. record { first = first; during = []; earlier = []; is = refl; parts = begun; room = (λ other begun. cc, tt) }; last = λ last. cc }, tt),
)
  where
    first : Offer
    first = (part_sent 1 0 time).offer

    begun : IsInParts 50000 (key_of (packet_sent 1)) [] first []
    begun = record { begins = refl; free = refl; fronts = (λ is. record { next = record { begins = refl; good = refl; soon = omega arith }; more = refl }, tt) }

bring_copies : (copies : List Copy) (time : ℕ) → HaveNumbers numbering copies → KeepsTimes numbering timing_of_sender copies → CarryPackets packet_sent copies
    → offers_of packet_sent (new_copies (passing_since link_with_nav [] copies)) ≡ carried_offers (part_sent 1 1 second_time_on_b ∷ part_sent 1 0 time ∷ []) → second_time_on_b ≤ time + 50000
    → BringDatagrams link_with_nav (events_of_copies copies) (part_sent 1 1 second_time_on_b ∷ part_sent 1 0 time ∷ [])
bring_copies copies time numbers times carry offered soon = record {
  copies = copies;
  is = refl;
  numbering = numbering;
  timing = timing_of_sender;
  pass = pass_timely copies numbers times;
  packet = packet_sent;
  carry = each_forwarded (λ copy. packet_in copy.event.frame ≡ Ok (packet_sent copy.index)) link_with_nav [] copies carry;
  offered = offered;
  sent = are_sent time soon;
  few = omega arith;
}

pub bring : (one two third : Verdict) → BringDatagrams link_with_nav (events one two third) sent
bring one two third = bring_copies (copies_of indices (events one two third)) time_on_a (numbers one two third) (times one two third) (carry one two third) (offered one two third) (omega arith)

pub bring_if_b_is_first : (one two third : Verdict) → BringDatagrams link_with_nav (events_if_b_is_first one two third) sent_if_b_is_first
bring_if_b_is_first one two third =
    bring_copies (copies_of indices (events_if_b_is_first one two third)) first_time_on_b (numbers_if_b_is_first one two third) (times_if_b_is_first one two third) (carry_if_b_is_first one two third)
    (offered_if_b_is_first one two third) (omega arith)

-- ---- the run

pub is_run : IsRun link_with_nav past
unfolding first_on_a first_on_b second_on_b groups.fate groups.groups_after fragments.octets_below packets.ones_sum words.u16_at words.u32_at outcomes.outcome outcomes.frame_payload outcomes.datagram_payload
is_run = (refl, tt, (refl, tt, (refl, tt, tt)))

pub is_run_if_b_is_first : IsRun link_with_nav past_if_b_is_first
unfolding first_on_a first_on_b second_on_b groups.fate groups.groups_after fragments.octets_below packets.ones_sum words.u16_at words.u32_at outcomes.outcome outcomes.frame_payload outcomes.datagram_payload
is_run_if_b_is_first = (refl, tt, (refl, tt, (refl, tt, tt)))

pub are_frames : AreFramesOf link_with_nav past
unfolding first_on_a first_on_b second_on_b words.u16_at
are_frames = (
  record { short = omega arith; long = omega arith; carries = refl },
  refl,
  (record { short = omega arith; long = omega arith; carries = refl }, refl, (record { short = omega arith; long = omega arith; carries = refl }, refl, tt)),
)

pub delivered_once : deliveries link_with_nav past nav ≡ nav_message ∷ []
delivered_once = brought_by link_with_nav past sent nav (bring _ _ _)
