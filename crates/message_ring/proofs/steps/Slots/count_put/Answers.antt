use Rattle.std.proofs.Common.{rules}
use Rattle.message_ring.proofs.Turns.{counts_at}
use Rattle.message_ring.proofs.steps.Slots.count_put.Goals as goal

pub load-requires : goal.load-requires
load-requires c = (search rules, search rules, counts_at _ _ _ _ c.requires.taker.0 c.requires.taker.1)
