use Rattle.datagram_delivery.proofs.Examples.{are_mixed, fifth_gives_up, anew_too_soon}
use Rattle.datagram_delivery.proofs.laws.each_condition_is_needed.Goals as goal

pub returns : goal.returns
returns c = record { fifth_group = fifth_gives_up; identification_again = are_mixed; counted_anew_too_soon = anew_too_soon }
