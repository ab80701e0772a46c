use Rattle.datagram_delivery.proofs.Arriving.{arriving_brings, arriving_is_delivered}
use Rattle.datagram_delivery.proofs.Offered.{completed_in}
use Rattle.datagram_delivery.proofs.laws.each_message_that_arrives_is_delivered.Goals as goal

pub returns : goal.returns
returns c = record { completed = completed_in; brings = arriving_brings; delivered = arriving_is_delivered }
