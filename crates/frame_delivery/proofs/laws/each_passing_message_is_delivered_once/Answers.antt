use Rattle.frame_delivery.proofs.Delivered.{messages_since}
use Rattle.frame_delivery.proofs.laws.each_passing_message_is_delivered_once.Goals as goal

pub returns : goal.returns
returns c = messages_since
