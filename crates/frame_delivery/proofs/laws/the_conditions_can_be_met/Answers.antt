use Rattle.frame_delivery.proofs.Examples.{all_met, met_forwarded, slower_met}
use Rattle.frame_delivery.proofs.laws.the_conditions_can_be_met.Goals as goal

pub returns : goal.returns
returns c = record { met = all_met; with_a_slower_network = slower_met; forwarded = met_forwarded }
