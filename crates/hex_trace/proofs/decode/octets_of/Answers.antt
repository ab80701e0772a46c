use Rattle.hex_trace.proofs.Marks.{octet_at_lane}
use Rattle.hex_trace.proofs.decode.octets_of.Goals as goal

pub returns-clause-octets : goal.returns-clause-octets
returns-clause-octets c = octet_at_lane c.args.marks c.fits-marks.0 c.fits-marks.1
