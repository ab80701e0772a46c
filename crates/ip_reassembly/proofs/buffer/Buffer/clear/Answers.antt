use Rattle.std.proofs.Common.{arith}
use Rattle.std.proofs.lemmas.Grind.{common_steps}
use Rattle.ip_reassembly.proofs.buffer.Buffer.clear.Goals as goal

pub invariant_of-self : goal.invariant_of-self
invariant_of-self c = (grind (arith, common_steps), grind (arith, common_steps), rw (c.unset_all.ensures) (c.none-self-inside.ensures _))
