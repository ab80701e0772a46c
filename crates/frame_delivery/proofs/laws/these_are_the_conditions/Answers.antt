use Rattle.frame_delivery.proofs.Main.{come_whole}
use Rattle.frame_delivery.proofs.Since.{all_pass_timely}
use Rattle.frame_delivery.proofs.laws.these_are_the_conditions.Goals as goal

pub returns : goal.returns
returns c = record { all = come_whole; passing = all_pass_timely }
