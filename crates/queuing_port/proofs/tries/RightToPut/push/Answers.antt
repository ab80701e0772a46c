use Rattle.queuing_port.proofs.Moves.{puts, putter_learns}
use Rattle.queuing_port.proofs.tries.RightToPut.push.Goals as goal

pub push_as-requires-clause-rule : goal.push_as-requires-clause-rule
push_as-requires-clause-rule g c = (puts _ _ _ _ c.requires.right, putter_learns _ _ c.requires.right)
