use Rattle.frame_delivery.proofs.Since.{short_is_near, since_is_near}
use Rattle.frame_delivery.proofs.laws.a_short_skew_max_is_near.Goals as goal

pub returns : goal.returns
returns c = record { all = λ settings numbering timing copies times over. (short_is_near settings numbering timing copies times over).0; since = since_is_near }
