use Rattle.frame_delivery.proofs.Examples.{after_two_is_lost, behind_a_restart_is_forwarded, far_behind_is_forwarded, far_is_lost, forwarded_twice, overtaken_is_lost, restart_is_lost}
use Rattle.frame_delivery.proofs.laws.each_condition_is_needed.Goals as goal

pub returns : goal.returns
returns c = record {
  second_copy_after_skew_max = forwarded_twice;
  overtaken_though_one_network_loses_nothing = overtaken_is_lost;
  window_lost_on_both_networks = after_two_is_lost;
  begun_far_apart = far_is_lost;
  restart_in_skew_max = restart_is_lost;
  late_by_128_frames = far_behind_is_forwarded;
  late_by_a_restart = behind_a_restart_is_forwarded;
}
