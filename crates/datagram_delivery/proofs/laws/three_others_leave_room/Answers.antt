use Rattle.datagram_delivery.proofs.Few.{few_leave_room}
use Rattle.datagram_delivery.proofs.Unused.{unused_is_free}
use Rattle.datagram_delivery.proofs.laws.three_others_leave_room.Goals as goal

pub returns : goal.returns
returns c = record { room = few_leave_room; unused = unused_is_free }
