use Rattle.frame_delivery.proofs.Passing.{copy_passes}
use Rattle.frame_delivery.proofs.laws.each_frame_passes.Goals as goal

pub returns : goal.returns
returns c = copy_passes
