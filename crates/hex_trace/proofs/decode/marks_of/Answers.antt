use Rattle.hex_trace.proofs.Marks.{length-marks, mark_at}
use Rattle.hex_trace.proofs.decode.marks_of.Goals as goal

pub returns-clause-length : goal.returns-clause-length
returns-clause-length c = length-marks c.args.digits c.fits-digits.0

pub returns-clause-marks : goal.returns-clause-marks
returns-clause-marks c = mark_at c.args.digits c.fits-digits.0 c.fits-digits.1
