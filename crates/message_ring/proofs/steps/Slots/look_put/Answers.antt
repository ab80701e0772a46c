use Rattle.std.proofs.Common.{rules}
use Rattle.message_ring.proofs.Turns.{take_looks_at}
use Rattle.message_ring.proofs.steps.Slots.look_put.Goals as goal

pub load-requires : goal.load-requires
load-requires c = (search rules, search rules, take_looks_at _ _ _ _ c.requires.taker.0 c.requires.taker.1)
