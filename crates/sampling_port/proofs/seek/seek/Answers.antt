use Rattle.sampling_port.specs.Rule.{slots_for}
use Rattle.sampling_port.proofs.Looks.{finds, misses}
use Rattle.sampling_port.proofs.seek.seek.Goals as goal

pub returns-then-found-word-clause-answer : goal.returns-then-found-word-clause-answer
returns-then-found-word-clause-answer g c =
    let told = c.try_to_hold-found.ensures in
    finds (slots_for g.row.READERS) _ _ _ _ _ _ _ told.0 c.loop-i.invariant c.loop-i-test.true told.1 told.2 c.if-found-word.true

pub loop-i-preserved : goal.loop-i-preserved
loop-i-preserved g c =
    let told = c.try_to_hold-found.ensures in
    misses (slots_for g.row.READERS) _ _ _ _ _ _ _ told.0 c.loop-i.invariant c.loop-i-test.true told.1 told.2 c.if-found-word.false told.3
