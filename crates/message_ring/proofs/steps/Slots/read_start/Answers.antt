use Rattle.std.proofs.Common.{rules}
use Rattle.message_ring.proofs.Turns.{start_is_read_at}
use Rattle.message_ring.proofs.steps.Slots.read_start.Goals as goal

pub load-requires : goal.load-requires
load-requires c = (search rules, search rules, start_is_read_at _ _ _ _ c.requires.taker.0 c.requires.taker.1)
