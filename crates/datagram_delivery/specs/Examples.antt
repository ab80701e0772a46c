-- A message in two fragments of which each network loses one, two messages among one another, and fragments that meet
-- all that is asked but one thing, of which a datagram isn't completed or is mixed. Times are in microseconds.
use Rattle.std.specs.Prelude.{ℕ, ◌+◌, ◌*◌, zero, suc, ◌==◌, nat_lt, true, false, List, [], ◌∷◌, ◌++◌, if◌then◌else◌}
use Rattle.es_base.specs.declared.place.Net.{Net}
use Rattle.es_base.specs.declared.place.Net.TheVariants as nets
use Rattle.es_base.specs.declared.verdict.Verdict.TheVariants as verdicts
use Rattle.es_base.specs.declared.port.PortKind.TheVariants.{Queuing}
use Rattle.es_base.specs.declared.event.Event.{Event}
use Rattle.es_base.specs.declared.fragment.DatagramKey.{DatagramKey}
use Rattle.link_rules.specs.Fragments.{key_of}
use Rattle.es_base.specs.Packet.{PacketParts}
use Rattle.es_base.specs.Settings.{Settings}
use Rattle.link_rules.specs.Outcome.{Payload}
use Rattle.frame_delivery.specs.Network.{Timing}
use Rattle.frame_delivery.specs.Sending.{Copy, Numbering}
use Rattle.datagram_delivery.specs.Splitting.{Offer}
use Rattle.datagram_delivery.specs.Counting.{Counting}
use Rattle.datagram_delivery.specs.Interleaved.{Carried}

-- ---- a message in two fragments

-- a queuing port of this link takes messages to 224.224.0.17 and UDP port 5002
abbrev pub link_with_queue : Settings
link_with_queue = record {
  vl = record { 0 = 17 };
  skew_max = 1000;
  redundancy = true;
  reassembly = 50000;
  window = 2;
  ports = record { name = []; address = 3772776465; udp = 5002; max = 100; kind = Queuing 4 } ∷ [];
}

abbrev pub sixteen_octets : List ℕ
sixteen_octets = 1 ∷ 2 ∷ 3 ∷ 4 ∷ 5 ∷ 6 ∷ 7 ∷ 8 ∷ 9 ∷ 10 ∷ 11 ∷ 12 ∷ 13 ∷ 14 ∷ 15 ∷ 16 ∷ []

-- the octets of its datagram: the UDP header, and the message
abbrev pub datagram_octets : List ℕ
datagram_octets = 19 ∷ 136 ∷ 19 ∷ 138 ∷ 0 ∷ 24 ∷ 0 ∷ 0 ∷ [] ++ sixteen_octets

-- the packets of the first frame and of those after it
abbrev pub packet_sent : ℕ → PacketParts
packet_sent zero = record { source = 167837953; destination = 3772776465; ident = 1; more = true; offset = 0; octets = 19 ∷ 136 ∷ 19 ∷ 138 ∷ 0 ∷ 24 ∷ 0 ∷ 0 ∷ 1 ∷ 2 ∷ 3 ∷ 4 ∷ 5 ∷ 6 ∷ 7 ∷ 8 ∷ [] }
packet_sent (suc index) = record { source = 167837953; destination = 3772776465; ident = 1; more = false; offset = 16; octets = 9 ∷ 10 ∷ 11 ∷ 12 ∷ 13 ∷ 14 ∷ 15 ∷ 16 ∷ [] }

-- the first frame, of 60 octets, as network A brings it
abbrev pub first_frame : List ℕ
first_frame =
    3 ∷ 0 ∷ 0 ∷ 0 ∷ 0 ∷ 17 ∷ 2 ∷ 0 ∷ 0 ∷ 0 ∷ 1 ∷ 32 ∷ 8 ∷ 0 ∷ 69 ∷ 0 ∷ 0 ∷ 36 ∷ 0 ∷ 1 ∷
    32 ∷ 0 ∷ 1 ∷ 17 ∷ 173 ∷ 213 ∷ 10 ∷ 1 ∷ 1 ∷ 1 ∷ 224 ∷ 224 ∷ 0 ∷ 17 ∷ 19 ∷ 136 ∷ 19 ∷ 138 ∷ 0 ∷ 24 ∷
    0 ∷ 0 ∷ 1 ∷ 2 ∷ 3 ∷ 4 ∷ 5 ∷ 6 ∷ 7 ∷ 8 ∷ 0 ∷ 0 ∷ 0 ∷ 0 ∷ 0 ∷ 0 ∷ 0 ∷ 0 ∷ 0 ∷ 254 ∷
    []

-- the second, as network B brings it
abbrev pub second_frame : List ℕ
second_frame =
    3 ∷ 0 ∷ 0 ∷ 0 ∷ 0 ∷ 17 ∷ 2 ∷ 0 ∷ 0 ∷ 0 ∷ 1 ∷ 64 ∷ 8 ∷ 0 ∷ 69 ∷ 0 ∷ 0 ∷ 28 ∷ 0 ∷ 1 ∷
    0 ∷ 2 ∷ 1 ∷ 17 ∷ 205 ∷ 219 ∷ 10 ∷ 1 ∷ 1 ∷ 1 ∷ 224 ∷ 224 ∷ 0 ∷ 17 ∷ 9 ∷ 10 ∷ 11 ∷ 12 ∷ 13 ∷ 14 ∷
    15 ∷ 16 ∷ 0 ∷ 0 ∷ 0 ∷ 0 ∷ 0 ∷ 0 ∷ 0 ∷ 0 ∷ 0 ∷ 0 ∷ 0 ∷ 0 ∷ 0 ∷ 0 ∷ 0 ∷ 0 ∷ 0 ∷ 255 ∷
    []

abbrev pub came_with : Net → ℕ → List ℕ → ℕ → Copy
came_with net index frame time = record { index = index; event = record { net = net; time = time; frame = frame; room = true; verdict = verdicts.OutOfSequence } }

-- B loses the first frame, and A the second
abbrev pub in_two_fragments : List Copy
in_two_fragments = came_with nets.B 1 second_frame 1500 ∷ came_with nets.A 0 first_frame 100 ∷ []

abbrev pub payload_sent : Payload
payload_sent = record { port = record { 0 = 0 }; kind = Queuing 4; joined = true; octets = sixteen_octets }

abbrev pub part_sent : ℕ → ℕ → ℕ → Carried
part_sent ident index time = record { offer = record { packet = record (packet_sent index) { ident = ident }; time = time; room = true }; payload = payload_sent }

abbrev pub message_in_two : List Carried
message_in_two = part_sent 1 1 1500 ∷ part_sent 1 0 100 ∷ []

-- ---- the same message, after the first fragment of another with its identification, whose others were lost, and a frame
-- ---- of no sender

abbrev pub a_part_before : List Event
a_part_before = (came_with nets.A 0 (253 ∷ []) 20).event ∷ (came_with nets.B 0 first_frame 10).event ∷ []

abbrev pub after_a_part : List Copy
after_a_part = came_with nets.B 1 second_frame 61500 ∷ came_with nets.A 0 first_frame 60100 ∷ []

-- ---- two messages whose fragments come among one another

abbrev pub among_one_another : List Carried
among_one_another = part_sent 2 1 400 ∷ part_sent 1 1 300 ∷ part_sent 2 0 200 ∷ part_sent 1 0 100 ∷ []

-- ---- a frame that is overtaken, among others

-- eight octets of one value
abbrev pub eight : ℕ → List ℕ
eight value = value ∷ value ∷ value ∷ value ∷ value ∷ value ∷ value ∷ value ∷ []

-- a frame of 60 octets with a message of eight octets of this value, and this sequence number, as a network brings it:
-- octet 11 tells which
abbrev pub frame_with : ℕ → ℕ → ℕ → List ℕ
frame_with network value number =
    (3 ∷ 0 ∷ 0 ∷ 0 ∷ 0 ∷ 17 ∷ 2 ∷ 0 ∷ 0 ∷ 0 ∷ 1 ∷ network ∷ 8 ∷ 0 ∷ 69 ∷ 0 ∷ 0 ∷ 36 ∷ 0 ∷ 1 ∷ 0 ∷ 0 ∷ 1 ∷ 17 ∷ 205 ∷ 213 ∷ 10 ∷ 1 ∷ 1 ∷ 1 ∷ 224 ∷ 224 ∷ 0 ∷ 17 ∷ 19 ∷ 136 ∷ 19 ∷ 138 ∷ 0 ∷ 16 ∷ 0 ∷ 0 ∷ [])
    ++ eight value
    ++ (0 ∷ 0 ∷ 0 ∷ 0 ∷ 0 ∷ 0 ∷ 0 ∷ 0 ∷ 0 ∷ number ∷ [])

-- its message
abbrev pub payload_with : ℕ → Payload
payload_with value = record { port = record { 0 = 0 }; kind = Queuing 4; joined = false; octets = eight value }

-- of three frames, sent 500 microseconds apart, B loses the second, and A brings it after B's third; and the next one
abbrev pub one_overtaken : List Copy
one_overtaken = came_with nets.A 1 (frame_with 32 1 255) 1150 ∷ came_with nets.B 2 (frame_with 64 2 1) 1100 ∷ came_with nets.A 0 (frame_with 32 0 254) 100 ∷ []

abbrev pub one_after : Copy
one_after = came_with nets.B 3 (frame_with 64 3 2) 1600

-- ---- one thing isn't met

-- the first fragments of three datagrams that begin after another
abbrev pub three_begun : List Offer
three_begun = (part_sent 4 0 400).offer ∷ (part_sent 3 0 300).offer ∷ (part_sent 2 0 200).offer ∷ []

-- the key of that one
abbrev pub first_key : DatagramKey
first_key = key_of (part_sent 1 0 100).offer.packet

-- the first fragments of five
abbrev pub five_begun : List Carried
five_begun = part_sent 5 0 500 ∷ part_sent 4 0 400 ∷ part_sent 3 0 300 ∷ part_sent 2 0 200 ∷ part_sent 1 0 100 ∷ []

-- ---- two datagrams of one identification

-- a link whose limit of time for a datagram in parts is 100 microseconds
abbrev pub link_of_100 : Settings
link_of_100 = record link_with_queue { reassembly = 100 }

-- the octets of a datagram: the UDP header, and a message of this value
abbrev pub datagram_of : ℕ → List ℕ
datagram_of value = (19 ∷ 136 ∷ 19 ∷ 138 ∷ 0 ∷ 24 ∷ 0 ∷ 0 ∷ []) ++ eight value ++ eight value

-- a frame of 60 octets with eight octets of a datagram: octets 6 and 7 of the packet's header, the header's checksum,
-- the eight octets, the sequence number
abbrev pub small_frame : List ℕ → List ℕ → List ℕ → ℕ → List ℕ
small_frame place sum octets number =
    (3 ∷ 0 ∷ 0 ∷ 0 ∷ 0 ∷ 17 ∷ 2 ∷ 0 ∷ 0 ∷ 0 ∷ 1 ∷ 32 ∷ 8 ∷ 0 ∷ 69 ∷ 0 ∷ 0 ∷ 28 ∷ 0 ∷ 1 ∷ [])
    ++ place
    ++ (1 ∷ 17 ∷ [])
    ++ sum
    ++ (10 ∷ 1 ∷ 1 ∷ 1 ∷ 224 ∷ 224 ∷ 0 ∷ 17 ∷ [])
    ++ octets
    ++ (0 ∷ 0 ∷ 0 ∷ 0 ∷ 0 ∷ 0 ∷ 0 ∷ 0 ∷ 0 ∷ 0 ∷ 0 ∷ 0 ∷ 0 ∷ 0 ∷ 0 ∷ 0 ∷ 0 ∷ [])
    ++ number
    ∷ []

-- the first eight octets of a datagram, the next eight, and the last
abbrev pub first_third : ℕ → List ℕ
first_third number = small_frame (32 ∷ 0 ∷ []) (173 ∷ 221 ∷ []) (19 ∷ 136 ∷ 19 ∷ 138 ∷ 0 ∷ 24 ∷ 0 ∷ 0 ∷ []) number

abbrev pub second_third : ℕ → ℕ → List ℕ
second_third value number = small_frame (32 ∷ 1 ∷ []) (173 ∷ 220 ∷ []) (eight value) number

abbrev pub last_third : ℕ → ℕ → List ℕ
last_third value number = small_frame (0 ∷ 2 ∷ []) (205 ∷ 219 ∷ []) (eight value) number

-- of two datagrams with one identification, sent 100 microseconds apart, the first loses its last frame, and the second
-- its second
abbrev pub one_identification : List Copy
one_identification =
    came_with nets.A 5 (last_third 2 4) 200 ∷ came_with nets.A 3 (first_third 2) 200
    ∷ came_with nets.A 1 (second_third 1 255) 100
    ∷ came_with nets.A 0 (first_third 254) 100
    ∷ []

-- the datagram of which a frame has a part: the first until 199 microseconds, and then the second
abbrev pub datagram_at : Event → List ℕ
datagram_at e = if nat_lt e.time 200 then datagram_of 1 else datagram_of 2

-- ---- a count of identifications that begins anew too soon

-- The sender restarts in the midst of a message in three fragments, of which it sent two. Some 10,000 microseconds later
-- it sends another with the same identification, the first of its count, and both networks lose the second fragment.
abbrev pub counted_anew : List Copy
counted_anew =
    came_with nets.A 4 (last_third 2 2) 13100 ∷ came_with nets.A 2 (first_third 0) 11100
    ∷ came_with nets.A 1 (second_third 1 255) 1100
    ∷ came_with nets.A 0 (first_third 254) 100
    ∷ []

-- the frame with index 2 is the first after the restart
abbrev pub restarting : Numbering
restarting = record { first = 254; restarts = λ index. index == 2 }

-- a frame each millisecond, and the pause before the restart
abbrev pub sent_with_pause : ℕ → ℕ
sent_with_pause zero = 0
sent_with_pause (suc zero) = 1000
sent_with_pause (suc (suc index)) = 11000 + 1000 * index

abbrev pub timing_with_pause : Timing
timing_with_pause = record { sent = sent_with_pause; gap = 1000; pause = 10000; least = 100; greatest = 100; wait = 0 }

-- the datagram of a frame: the first before the restart, and then the second
abbrev pub datagram_of_frame : ℕ → ℕ
datagram_of_frame zero = 1
datagram_of_frame (suc zero) = 1
datagram_of_frame (suc (suc index)) = 2

abbrev pub counting_anew : Counting
counting_anew = record { datagram = datagram_of_frame; octets = datagram_of; ident = λ index. 1; anew = λ index. index == 2 }

abbrev pub datagram_before_restart : Event → List ℕ
datagram_before_restart e = if nat_lt e.time 11000 then datagram_of 1 else datagram_of 2
