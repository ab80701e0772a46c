use Rattle.std.proofs.Common.{take}
use Rattle.ip_reassembly.specs.Covering.{AreSet}
use Rattle.ip_reassembly.proofs.runs.are_set.Given as goal

-- whether all so far are set
abbrev pub invariant-loop-mark : goal.invariant-loop-mark
invariant-loop-mark l = AreSet (take l.mark-index l.marks) l.all
