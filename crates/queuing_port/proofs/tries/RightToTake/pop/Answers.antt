use Rattle.queuing_port.proofs.Moves.{takes, taker_learns}
use Rattle.queuing_port.proofs.tries.RightToTake.pop.Goals as goal

pub pop_as-requires-clause-rule : goal.pop_as-requires-clause-rule
pop_as-requires-clause-rule g c = (takes _ _ c.requires.right, taker_learns _ _ c.requires.right)
