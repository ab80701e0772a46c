use Rattle.datagram_delivery.proofs.Offered.{packets_since}
use Rattle.datagram_delivery.proofs.laws.each_passing_packet_is_offered_once.Goals as goal

pub returns : goal.returns
returns c = packets_since
