-- How far a frame comes on its way to a port: integrity checking, redundancy management, the IPv4
-- packet, reassembly, the UDP datagram, the port. The first step that refuses it says its verdict.
use Rattle.std.specs.Prelude.{ℕ, Bool, not, ◌&&◌, List, length, slice_get, nat_lt, Result, Ok, Err, if◌then◌else◌}
use Rattle.std.specs.Option.{ok_or}
use Rattle.es_base.specs.declared.place.PortNo.{PortNo}
use Rattle.es_base.specs.declared.port.PortKind.{PortKind}
use Rattle.es_base.specs.declared.verdict.Verdict.{Verdict}
use Rattle.es_base.specs.declared.verdict.Verdict.TheVariants as verdicts
use Rattle.es_base.specs.declared.event.Arrival.{Arrival}
use Rattle.es_base.specs.declared.event.Event.{Event}
use Rattle.es_base.specs.Returns.{◌>>=◌, map_err}
use Rattle.es_base.specs.Settings.{Settings}
use Rattle.es_base.specs.Udp.{udp_of}
use Rattle.es_base.specs.Port.{Port, is_sampling, port_of}
use Rattle.link_rules.specs.Integrity.{passes}
use Rattle.link_rules.specs.Redundancy.{forwarded, is_redundant}
use Rattle.es_base.specs.Packet.{PacketParts}
use Rattle.link_rules.specs.Groups.{Group, Fate, bad, held, whole, fate}
use Rattle.link_rules.specs.Reassembly.{packet_in, groups_in}

-- what IPv4 hands on whole: octets for an address, and whether they were joined of fragments
pub record Datagram : Type 0 where
  pub destination : ℕ
  pub joined : Bool
  pub octets : List ℕ

-- a payload for a port of this kind, and whether its datagram was joined of fragments
pub record Payload : Type 0 where
  pub port : PortNo
  pub kind : PortKind
  pub joined : Bool
  pub octets : List ℕ

pub data Outcome : Type 0 where
  -- integrity checking refuses it
  out_of_sequence : Outcome
  -- it passes, but redundancy management does not forward it
  redundant : Outcome
  -- it is forwarded, and has this verdict, which changes nothing at any port
  refused : Verdict → Outcome
  -- it is forwarded, and brings this payload to a port
  brings : Payload → Outcome

-- ---- the datagram (RFC 791 3.2)

-- what reassembly hands on of a packet, by its fate: the datagram that it is or completes, or nothing if
-- its fragment is bad or held
-- rule: REAS-13, REAS-10
abbrev pub reassembled : PacketParts → Fate → Result Datagram Verdict
reassembled packet bad = Err verdicts.BadFragment
reassembled packet held = Err verdicts.FragmentHeld
reassembled packet (whole octets joined) = Ok (record { destination = packet.destination; joined = joined; octets = octets })

-- ---- the port (ARINC 664 Part 7, port services)

-- what a port admits: a sampling port no payload of a datagram that was joined of fragments (own), and
-- no port one above its longest
-- rule: PORT-2, PORT-3
abbrev pub admitted : Port → Payload → Result Payload Verdict
admitted port payload =
    if is_sampling port.kind && payload.joined then Err (verdicts.FragmentedSample payload.port)
    else if nat_lt port.max (length payload.octets) then Err (verdicts.TooLong payload.port)
    else Ok payload

-- the payload of a datagram (RFC 768), for the port with its address and UDP port
-- rule: UDP-1, UDP-4, PORT-1
unfoldable pub datagram_payload : List Port → Datagram → Result Payload Verdict
datagram_payload ports datagram = do
  udp ← map_err (λ fault. verdicts.BadUdp) (udp_of datagram.octets)
  place ← ok_or (port_of ports datagram.destination udp.destination_port) verdicts.NoPort
  port ← ok_or (slice_get ports place.0) verdicts.NoPort
  admitted port (record { port = place; kind = port.kind; joined = datagram.joined; octets = udp.payload })

-- ---- the whole way of a frame that is forwarded

-- the payload of a packet that comes now, after these groups; times are in microseconds
abbrev pub packet_payload : List Port → ℕ → List Group → PacketParts → ℕ → Result Payload Verdict
packet_payload ports limit groups packet now = do
  datagram ← reassembled packet (fate limit groups packet now)
  datagram_payload ports datagram

-- the payload of a frame that is forwarded, after these groups at its link
-- rule: IP-1, REAS-1
unfoldable pub frame_payload : Settings → List Group → Arrival → Result Payload Verdict
frame_payload settings groups a = do
  packet ← map_err verdicts.BadHeader (packet_in a.frame)
  packet_payload settings.ports settings.reassembly groups packet a.time

-- the outcome of a frame that is forwarded
abbrev pub brought : Result Payload Verdict → Outcome
brought (Ok payload) = brings payload
brought (Err verdict) = refused verdict

-- ---- the outcome

-- how far a frame comes that comes after this past
-- rule: INT-4, RM-5
unfoldable pub outcome : Settings → List Event → Arrival → Outcome
outcome settings past a =
    if not (passes settings past a) then out_of_sequence
    else if is_redundant settings (forwarded settings past) a then redundant
    else brought (frame_payload settings (groups_in settings past) a)
