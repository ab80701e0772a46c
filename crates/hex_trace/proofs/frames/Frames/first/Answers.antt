use Rattle.std.proofs.Common.{◌∙◌, ◌<◌, ap, length, rules, slice_get, List}
use Rattle.hex_trace.specs.Frames.{TimedFrame}
use Rattle.hex_trace.proofs.Blocks.{lent_at, next_is}
use Rattle.hex_trace.proofs.frames.Frames.first.Goals as goal

pub returns-in-Some : goal.returns-in-Some
returns-in-Some c =
    let at = c.self.inside.at in
    let blocks = c.self.inside.blocks.items in
    let block = c.in-Some.block.now in
    let some : 0 < length blocks = search rules in
    lent_at block at c.get.result c.get.ensures ∙ next_is at blocks block c.in-Some.ensures.lookup some c.self.invariant.1
    ∙ ap (λ (frames : List TimedFrame). slice_get frames 0) c.self.view_is
