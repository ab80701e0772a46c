use Rattle.std.proofs.Common.{rules}
use Rattle.triple_buffer.proofs.Turns.{look_at}
use Rattle.triple_buffer.proofs.steps.Buffers.look.Goals as goal

pub load-requires : goal.load-requires
load-requires c = (search rules, search rules, look_at _ _ _ _ _ c.requires.reader)
