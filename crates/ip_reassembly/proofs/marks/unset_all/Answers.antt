use Rattle.std.proofs.Common.{arith}
use Rattle.std.proofs.lemmas.Grind.{common_steps}
use Rattle.ip_reassembly.proofs.Came.{none_within, unset_within}
use Rattle.ip_reassembly.proofs.marks.unset_all.Goals as goal

pub returns-then-least-reach : goal.returns-then-least-reach
returns-then-least-reach c =
    rw (← unset_within c.args.marks.now.items c.args.least c.args.reach (omega arith) c.requires.within c.requires.stretch) (grind (arith, common_steps))

pub returns-else-least-reach : goal.returns-else-least-reach
returns-else-least-reach c = none_within c.args.marks.now.items c.args.least c.args.reach (omega arith) c.requires.stretch
