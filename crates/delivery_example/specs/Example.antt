-- A message in two fragments that its sender sends on both networks: B brings both, and A the first alone. Times are in
-- microseconds.
use Rattle.std.specs.Prelude.{◌≡◌, ℕ, true, List, [], ◌∷◌}
use Rattle.es_base.specs.declared.place.Net.TheVariants as nets
use Rattle.es_base.specs.declared.place.PortNo.{PortNo}
use Rattle.es_base.specs.declared.port.PortKind.TheVariants.{Queuing}
use Rattle.es_base.specs.declared.event.Arrival.{Arrival}
use Rattle.es_base.specs.declared.event.Event.{Event}
use Rattle.es_base.specs.declared.event.Message.{Message}
use Rattle.es_base.specs.declared.verdict.Verdict.TheVariants as verdicts
use Rattle.es_base.specs.Config.{Configuration}
use Rattle.es_base.specs.Past.{arrived, event_of}
use Rattle.es_base.specs.Port.{Port}
use Rattle.es_base.specs.Settings.{Settings}
use Rattle.datagram_delivery.specs.Examples.{first_frame, link_with_queue, part_sent, second_frame, sixteen_octets}
use Rattle.datagram_delivery.specs.Interleaved.{Carried}

-- ---- the configuration

-- `nav`, a queue of at most 4 messages, which are sent to 224.224.0.17 and UDP port 5002
abbrev pub nav_port : Port
nav_port = record { name = 110 ∷ 97 ∷ 118 ∷ []; address = 3772776465; udp = 5002; max = 100; kind = Queuing 4 }

-- link 17, with this port
abbrev pub link_with_nav : Settings
link_with_nav = record link_with_queue { ports = nav_port ∷ [] }

unfoldable pub configuration : Configuration
configuration = record { constant = 3 ∷ 0 ∷ 0 ∷ 0 ∷ []; links = link_with_nav ∷ [] }

-- the port's place in its link
abbrev pub nav : PortNo
nav = record { 0 = 0 }

-- ---- what the networks bring

-- the frame with the first fragment, as A brings it
unfoldable pub first_on_a : List ℕ
first_on_a = first_frame

-- as B brings it: octet 11 tells the network
unfoldable pub first_on_b : List ℕ
first_on_b =
    3 ∷ 0 ∷ 0 ∷ 0 ∷ 0 ∷ 17 ∷ 2 ∷ 0 ∷ 0 ∷ 0 ∷ 1 ∷ 64 ∷ 8 ∷ 0 ∷ 69 ∷ 0 ∷ 0 ∷ 36 ∷ 0 ∷ 1 ∷
    32 ∷ 0 ∷ 1 ∷ 17 ∷ 173 ∷ 213 ∷ 10 ∷ 1 ∷ 1 ∷ 1 ∷ 224 ∷ 224 ∷ 0 ∷ 17 ∷ 19 ∷ 136 ∷ 19 ∷ 138 ∷ 0 ∷ 24 ∷
    0 ∷ 0 ∷ 1 ∷ 2 ∷ 3 ∷ 4 ∷ 5 ∷ 6 ∷ 7 ∷ 8 ∷ 0 ∷ 0 ∷ 0 ∷ 0 ∷ 0 ∷ 0 ∷ 0 ∷ 0 ∷ 0 ∷ 254 ∷
    []

-- the frame with the second fragment, as B brings it
unfoldable pub second_on_b : List ℕ
second_on_b = second_frame

-- a configuration and three frames are these
pub record AreOfTheExample (config : Configuration) (on_a one_on_b two_on_b : List ℕ) : Type 0 where
  pub configured : config ≡ configuration
  pub of_a : on_a ≡ first_on_a
  pub first_of_b : one_on_b ≡ first_on_b
  pub second_of_b : two_on_b ≡ second_on_b

abbrev pub time_on_a : ℕ
time_on_a = 100

abbrev pub first_time_on_b : ℕ
first_time_on_b = 900

abbrev pub second_time_on_b : ℕ
second_time_on_b = 10500

abbrev pub arrival_on_a : Arrival
arrival_on_a = arrived nets.A time_on_a first_on_a

abbrev pub first_arrival_on_b : Arrival
first_arrival_on_b = arrived nets.B first_time_on_b first_on_b

abbrev pub second_arrival_on_b : Arrival
second_arrival_on_b = arrived nets.B second_time_on_b second_on_b

-- ---- what comes of it

-- the message, which is whole with the second fragment
abbrev pub nav_message : Message
nav_message = record { time = second_time_on_b; octets = sixteen_octets }

abbrev pub past : List Event
past = event_of second_arrival_on_b true (verdicts.Queued nav) ∷ event_of first_arrival_on_b true verdicts.Redundant ∷ event_of arrival_on_a true verdicts.FragmentHeld ∷ []

-- the packets of the first copies
abbrev pub sent : List Carried
sent = part_sent 1 1 second_time_on_b ∷ part_sent 1 0 time_on_a ∷ []

-- the same where the link takes B's copy of the first frame before A's
abbrev pub past_if_b_is_first : List Event
past_if_b_is_first = event_of second_arrival_on_b true (verdicts.Queued nav) ∷ event_of arrival_on_a true verdicts.Redundant ∷ event_of first_arrival_on_b true verdicts.FragmentHeld ∷ []

abbrev pub sent_if_b_is_first : List Carried
sent_if_b_is_first = part_sent 1 1 second_time_on_b ∷ part_sent 1 0 first_time_on_b ∷ []
