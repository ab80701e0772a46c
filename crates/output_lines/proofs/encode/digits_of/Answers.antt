use Rattle.output_lines.proofs.Encoded.{digits_right}
use Rattle.output_lines.proofs.encode.digits_of.Goals as goal

pub returns : goal.returns
returns c = digits_right c.args.values c.fits-values.0 c.requires
