use Rattle.datagram_delivery.proofs.Splits.{front_held, last_completes}
use Rattle.datagram_delivery.proofs.laws.a_split_datagram_is_joined.Goals as goal

pub returns : goal.returns
returns c = record { held = front_held; whole = last_completes }
