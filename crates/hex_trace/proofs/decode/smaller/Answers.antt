use Rattle.hex_trace.proofs.Marks.{both_marks}
use Rattle.hex_trace.proofs.decode.smaller.Goals as goal

pub returns : goal.returns
returns c = both_marks c.args.first c.args.second c.fits-first.0 c.fits-second.0
