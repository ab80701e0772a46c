use Rattle.receiver.proofs.Overflows.{found_full}
use Rattle.receiver.proofs.laws.what_overflows_found_its_queue_full.Goals as goal

pub returns : goal.returns
returns c = found_full
