use Rattle.std.proofs.Common.{arith}
use Rattle.datagram_delivery.proofs.Examples.{among_sent, parts_met, split_brings, split_message_delivered, arrives_after_a_part, arrives_after_overtaken}
use Rattle.datagram_delivery.proofs.laws.the_conditions_can_be_met.Goals as goal

pub returns : goal.returns
returns c = record { in_fragments = split_brings; among = (among_sent, (omega arith, (omega arith, (omega arith, (omega arith, tt))))); arrives = arrives_after_a_part; after_overtaken = arrives_after_overtaken; parts = parts_met; delivered = split_message_delivered }
