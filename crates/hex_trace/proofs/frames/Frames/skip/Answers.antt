use Rattle.std.proofs.Common.{◌≡◌, ◌∙◌, ◌+◌, ◌<◌, ap, sym, length, drop, arith, rules}
use Rattle.std.proofs.lemmas.List.{drop-drop}
use Rattle.hex_trace.specs.Frames.{joined_blocks}
use Rattle.hex_trace.proofs.Blocks.{after_pop, last_of_first, within_first}
use Rattle.hex_trace.proofs.frames.Frames.skip.Goals as goal

pub invariant_of-self-else-self-len : goal.invariant_of-self-else-self-len
invariant_of-self-else-self-len c = after_pop c.self.inside.blocks.items c.pop_front.new.self.items c.pop_front.ensures.rest c.self.invariant.0

pub returns-then-self-len : goal.returns-then-self-len
returns-then-self-len c = sym (drop-drop 1 c.self.inside.at (joined_blocks c.self.inside.blocks.items)) ∙ ap (drop 1) c.self.view_is

pub returns-else-self-len : goal.returns-else-self-len
returns-else-self-len c =
    let at = c.self.inside.at in
    let blocks = c.self.inside.blocks.items in
    let block = c.in-Some.block.now in
    let some : 0 < length blocks = search rules in
    let inside = within_first at blocks block c.in-Some.ensures.lookup some c.self.invariant.1 in
    let last : at + 1 ≡ length block.items = omega (arith, inside, c.if-self-len.false, c.len-len.ensures) in
    last_of_first at blocks c.pop_front.new.self.items block c.in-Some.ensures.lookup some last c.pop_front.ensures.rest
    ∙ sym (drop-drop 1 at (joined_blocks blocks)) ∙ ap (drop 1) c.self.view_is
