use Rattle.frame_delivery.proofs.Examples.{later_is_lost, needed_too, one_is_enough, strange_recovers, stranger_hides}
use Rattle.frame_delivery.proofs.laws.a_link_recovers_in_examples.Goals as goal

pub returns : goal.returns
returns c = record { one_network_out = one_is_enough; after_strange_frames = strange_recovers; after_a_later_time = later_is_lost; while_a_stranger_passes = stranger_hides; all_pass = needed_too }
