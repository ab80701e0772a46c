-- A frame that brings no payload has no verdict of an overflow.
use Rattle.std.proofs.Common.{◌≡◌, ℕ, Bool, true, false, not, ◌&&◌, List, length, Option, None, Some, Result, Ok, Err, nat_lt, refl, if◌then◌else◌}
use Rattle.std.specs.List.{slice_get}
use Rattle.std.specs.Option.{ok_or}
use Rattle.es_base.specs.declared.place.PortNo.{PortNo}
use Rattle.es_base.specs.declared.verdict.Verdict.{Verdict}
use Rattle.es_base.specs.declared.verdict.Verdict.TheVariants as verdicts
use Rattle.es_base.specs.declared.fault.PacketFault.{PacketFault}
use Rattle.es_base.specs.declared.fault.UdpFault.{UdpFault}
use Rattle.es_base.specs.declared.event.Arrival.{Arrival}
use Rattle.es_base.specs.declared.event.Event.{Event}
use Rattle.es_base.specs.Returns.{◌>>=◌, map_err}
use Rattle.es_base.specs.Port.{Port, is_sampling, port_of}
use Rattle.es_base.specs.Settings.{Settings}
use Rattle.es_base.specs.Packet.{PacketParts}
use Rattle.es_base.specs.Udp.{UdpParts, udp_of}
use Rattle.link_rules.specs.Integrity.{passes}
use Rattle.link_rules.specs.Redundancy.{forwarded, is_redundant}
use Rattle.link_rules.specs.Groups.{Group, Fate, bad, held, whole, fate}
use Rattle.link_rules.specs.Reassembly.{groups_in, packet_in}
use Rattle.link_rules.specs.Outcome as way
use Rattle.receiver.specs.Losses.{is_overflow}

-- what refuses a payload is no overflow
abbrev IsOther : Result way.Payload Verdict → Type 0
IsOther (Ok payload) = Unit {0}
IsOther (Err verdict) = (port : PortNo) → is_overflow verdict port ≡ false

at_port : (place : PortNo) (found : Option Port) (joined : Bool) (octets : List ℕ)
    → IsOther (ok_or found verdicts.NoPort >>= (λ port. way.admitted port (record { port = place; kind = port.kind; joined = joined; octets = octets })))
at_port place None joined octets = λ port. refl
at_port place (Some port) joined octets = go (is_sampling port.kind && joined) (nat_lt port.max (length octets))
  where
    payload : way.Payload
    payload = record { port = place; kind = port.kind; joined = joined; octets = octets }

    go : (fragmented long : Bool) → IsOther (if fragmented then Err (verdicts.FragmentedSample place) else if long then Err (verdicts.TooLong place) else Ok payload)
    go true long = λ port. refl
    go false true = λ port. refl
    go false false = tt

at_place : (ports : List Port) (found : Option PortNo) (joined : Bool) (octets : List ℕ)
    → IsOther (ok_or found verdicts.NoPort >>= (λ place. ok_or (slice_get ports place.0) verdicts.NoPort
    >>= (λ port. way.admitted port (record { port = place; kind = port.kind; joined = joined; octets = octets }))))
at_place ports None joined octets = λ port. refl
at_place ports (Some place) joined octets = at_port place (slice_get ports place.0) joined octets

after_header : (ports : List Port) (datagram : way.Datagram) (read : Result UdpParts UdpFault)
    → IsOther (map_err (λ fault. verdicts.BadUdp) read >>= (λ udp. ok_or (port_of ports datagram.destination udp.destination_port) verdicts.NoPort
    >>= (λ place. ok_or (slice_get ports place.0) verdicts.NoPort
    >>= (λ port. way.admitted port (record { port = place; kind = port.kind; joined = datagram.joined; octets = udp.payload })))))
after_header ports datagram (Err fault) = λ port. refl
after_header ports datagram (Ok udp) = at_place ports (port_of ports datagram.destination udp.destination_port) datagram.joined udp.payload

in_datagram : (ports : List Port) (datagram : way.Datagram) → IsOther (way.datagram_payload ports datagram)
unfolding way.datagram_payload
in_datagram ports datagram = after_header ports datagram (udp_of datagram.octets)

from_fate : (ports : List Port) (packet : PacketParts) (becomes : Fate) → IsOther (way.reassembled packet becomes >>= (λ datagram. way.datagram_payload ports datagram))
from_fate ports packet bad = λ port. refl
from_fate ports packet held = λ port. refl
from_fate ports packet (whole octets joined) = in_datagram ports (record { destination = packet.destination; joined = joined; octets = octets })

from_packet : (ports : List Port) (limit : ℕ) (groups : List Group) (now : ℕ) (read : Result PacketParts PacketFault)
    → IsOther (map_err verdicts.BadHeader read >>= (λ packet. way.packet_payload ports limit groups packet now))
from_packet ports limit groups now (Err fault) = λ port. refl
from_packet ports limit groups now (Ok packet) = from_fate ports packet (fate limit groups packet now)

from_frame : (settings : Settings) (groups : List Group) (a : Arrival) → IsOther (way.frame_payload settings groups a)
unfolding way.frame_payload
from_frame settings groups a = from_packet settings.ports settings.reassembly groups a.time (packet_in a.frame)

-- ---- of a frame that comes after a past

abbrev pub NeverOverflows : way.Outcome → Type 0
NeverOverflows (way.refused verdict) = (port : PortNo) → is_overflow verdict port ≡ false
NeverOverflows (way.brings payload) = Unit {0}
NeverOverflows way.out_of_sequence = Unit {0}
NeverOverflows way.redundant = Unit {0}

brought : (found : Result way.Payload Verdict) → IsOther found → NeverOverflows (way.brought found)
brought (Ok payload) other = tt
brought (Err verdict) other = other

pub only_queues_overflow : (settings : Settings) (past : List Event) (a : Arrival) → NeverOverflows (way.outcome settings past a)
unfolding way.outcome
only_queues_overflow settings past a = go (not (passes settings past a)) (is_redundant settings (forwarded settings past) a)
  where
    go : (refused redundant : Bool)
        → NeverOverflows (if refused then way.out_of_sequence else if redundant then way.redundant else way.brought (way.frame_payload settings (groups_in settings past) a))
    go true redundant = tt
    go false true = tt
    go false false = brought _ (from_frame settings (groups_in settings past) a)
