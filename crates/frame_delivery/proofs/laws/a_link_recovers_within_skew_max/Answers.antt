use Rattle.frame_delivery.proofs.Since.{counts_at_last}
use Rattle.frame_delivery.proofs.laws.a_link_recovers_within_skew_max.Goals as goal

pub returns : goal.returns
returns c = counts_at_last
