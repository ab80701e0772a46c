use Rattle.frame_delivery.proofs.Main.{firsts_are_forwarded, whole_first_if, whole_passes}
use Rattle.frame_delivery.proofs.Firsts.{all_have_first}
use Rattle.frame_delivery.proofs.laws.no_frame_is_lost.Goals as goal

pub returns : goal.returns
returns c = record { pass = whole_passes; forwarded = firsts_are_forwarded; first = whole_first_if; all = λ copies index. all_have_first index copies }
