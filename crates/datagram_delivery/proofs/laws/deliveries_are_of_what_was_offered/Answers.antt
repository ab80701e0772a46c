use Rattle.datagram_delivery.proofs.Offered.{deliveries_by_offers, groups_by_offers}
use Rattle.datagram_delivery.proofs.laws.deliveries_are_of_what_was_offered.Goals as goal

pub returns : goal.returns
returns c = record { messages = deliveries_by_offers; groups = groups_by_offers }
