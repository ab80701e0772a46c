use Rattle.datagram_delivery.proofs.Parts.{all_since, brought_since, parts_alone, limit_is_over, whole_have_parts}
use Rattle.datagram_delivery.proofs.laws.each_message_was_sent.Goals as goal

pub returns : goal.returns
returns c = record { brought = brought_since; delivered = all_since; limit_over = limit_is_over; nothing_before = parts_alone; whole = whole_have_parts }
