use Rattle.frame_delivery.proofs.Numbers.{ahead_of_earlier, not_ahead_of_later}
use Rattle.frame_delivery.proofs.laws.a_later_frame_is_ahead.Goals as goal

pub returns : goal.returns
returns c = record { later = ahead_of_earlier; earlier = not_ahead_of_later }
