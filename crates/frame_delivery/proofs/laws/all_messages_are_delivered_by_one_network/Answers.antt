use Rattle.frame_delivery.proofs.Delivered.{all_by_one}
use Rattle.frame_delivery.proofs.laws.all_messages_are_delivered_by_one_network.Goals as goal

pub returns : goal.returns
returns c = all_by_one
