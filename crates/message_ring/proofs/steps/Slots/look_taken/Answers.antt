use Rattle.std.proofs.Common.{rules}
use Rattle.message_ring.proofs.Turns.{put_looks_at}
use Rattle.message_ring.proofs.steps.Slots.look_taken.Goals as goal

pub load-requires : goal.load-requires
load-requires c = (search rules, search rules, put_looks_at _ _ _ _ c.requires.putter)
