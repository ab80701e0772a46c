use Rattle.std.proofs.Common.{arith}
use Rattle.std.proofs.lemmas.Grind.{common_steps}
use Rattle.ip_reassembly.proofs.Written.{nothing_held}
use Rattle.ip_reassembly.proofs.buffer.Buffer.open.Goals as goal

pub invariant_of-result : goal.invariant_of-result
invariant_of-result c = (c.in_ok-octets.ensures, rw c.in_ok-marks.ensures (grind (arith, common_steps)), rw c.in_ok-marks.ensures (c.none.ensures 8200))

pub returns : goal.returns
returns c = rw c.in_ok-marks.ensures (nothing_held _ 8200)
