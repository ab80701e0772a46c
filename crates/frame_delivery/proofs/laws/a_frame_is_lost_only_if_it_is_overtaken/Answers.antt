use Rattle.frame_delivery.proofs.Main.{new_ones_forwarded}
use Rattle.frame_delivery.proofs.Firsts.{lost_is_overtaken}
use Rattle.frame_delivery.proofs.laws.a_frame_is_lost_only_if_it_is_overtaken.Goals as goal

pub returns : goal.returns
returns c = record { forwarded = new_ones_forwarded; lost = lost_is_overtaken }
