use Rattle.frame_delivery.proofs.Main.{first_ages}
use Rattle.frame_delivery.proofs.laws.each_message_has_its_age.Goals as goal

pub returns : goal.returns
returns c = first_ages
