use Rattle.datagram_delivery.proofs.Arriving.{interleaved_delivered}
use Rattle.datagram_delivery.proofs.laws.each_datagram_among_others_is_delivered_once.Goals as goal

pub returns : goal.returns
returns c = interleaved_delivered
