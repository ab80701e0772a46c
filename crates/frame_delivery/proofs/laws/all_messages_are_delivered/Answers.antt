use Rattle.frame_delivery.proofs.Delivered.{all_delivered}
use Rattle.frame_delivery.proofs.laws.all_messages_are_delivered.Goals as goal

pub returns : goal.returns
returns c = all_delivered
