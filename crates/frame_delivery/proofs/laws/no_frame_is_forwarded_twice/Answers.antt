use Rattle.frame_delivery.proofs.Since.{new_in_order, counts_alone, forwarded_are, new_if, new_in_time, news_since}
use Rattle.frame_delivery.proofs.laws.no_frame_is_forwarded_twice.Goals as goal

pub returns : goal.returns
returns c = record { forwarded = λ settings numbering timing old copies pass. (news_since settings numbering timing old copies pass).0; in_order = new_in_order; each = new_if; in_time = new_in_time; nothing_before = counts_alone; redundancy_keeps = forwarded_are }
