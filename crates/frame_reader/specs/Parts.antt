-- A packet, a UDP datagram and its header by their fields.
use Rattle.es_base.specs.Packet.{PacketParts}
use Rattle.es_base.specs.Udp.{UdpParts, UdpHeadParts}
use Rattle.frame_reader.specs.declared.packet.Packet.{Packet}
use Rattle.frame_reader.specs.declared.datagram.Datagram.{Datagram}
use Rattle.frame_reader.specs.declared.datagram.UdpHead.{UdpHead}

abbrev pub packet_parts : Packet → PacketParts
packet_parts packet = record {
  source = packet.source;
  destination = packet.destination;
  ident = packet.ident;
  more = packet.more;
  offset = packet.offset;
  octets = packet.octets.now;
}

abbrev pub udp_parts : Datagram → UdpParts
udp_parts datagram = record {
  source_port = datagram.source_port;
  destination_port = datagram.destination_port;
  payload = datagram.payload.now;
}

abbrev pub udp_head_parts : UdpHead → UdpHeadParts
udp_head_parts head = record {
  source_port = head.source_port;
  destination_port = head.destination_port;
  payload_octets = head.payload_octets;
}
