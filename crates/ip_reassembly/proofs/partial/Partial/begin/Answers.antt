use Rattle.std.proofs.Common.{[], sym}
use Rattle.ip_reassembly.proofs.partial.Partial.begin.Goals as goal

pub returns : goal.returns
returns c = record { key_is = c.join.ensures.key; begin_is = λ time. sym c.join.ensures.begin; holds = c.join.ensures.holds [] c.args.now c.clear.ensures }
