use Rattle.frame_delivery.proofs.Running.{forwarded_when_over, redundant_while_it_runs}
use Rattle.frame_delivery.proofs.laws.skew_max_runs_from_each_forwarded_frame.Goals as goal

pub returns : goal.returns
returns c = record { over = forwarded_when_over; runs = redundant_while_it_runs }
