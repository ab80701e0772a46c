use Rattle.datagram_delivery.proofs.Counting.{count_goes_on, counted_have_parts, turns_over_late}
use Rattle.datagram_delivery.proofs.laws.a_count_of_identifications_mixes_nothing.Goals as goal

pub returns : goal.returns
returns c = record { parts = counted_have_parts; turns_over = turns_over_late; goes_on = count_goes_on }
