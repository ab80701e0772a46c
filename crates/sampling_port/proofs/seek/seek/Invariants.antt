use Rattle.sampling_port.specs.Rule.{slots_for}
use Rattle.sampling_port.proofs.Looks.{IsTrying}
use Rattle.sampling_port.proofs.seek.seek.Given as goal

abbrev pub invariant-loop-i : goal.invariant-loop-i
invariant-loop-i g l = IsTrying (slots_for g.row.READERS) l.fn.reader l.reader l.word l.i
