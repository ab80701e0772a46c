use Rattle.datagram_delivery.proofs.Few.{sent_free, sent_room}
use Rattle.datagram_delivery.proofs.laws.four_may_be_in_parts.Goals as goal

pub returns : goal.returns
returns c = record { room = sent_room; free = sent_free }
