use Rattle.std.proofs.Common.{◌≡◌, ◌∙◌, ◌<◌, length, get_or, sym, ap, rules}
use Rattle.std.proofs.lemmas.Bool.{ltb-true}
use Rattle.block_list.specs.Kept.{block_at}
use Rattle.block_list.proofs.Blocks.{block_of, last_block, no_block}
use Rattle.block_list.proofs.BlockList.block.Goals as goal

pub returns-in-Some : goal.returns-in-Some
returns-in-Some g c =
    let full = c.self.inside.full.items in
    let last = c.self.inside.last.items in
    let number = c.args.number in
    let block = c.in-Some.block.now in
    let lookup = c.in-Some.ensures.lookup in
    let is : c.deref.result.now ≡ full = c.deref.ensures.value in
    let within : number < length full = rw is at (ltb-true _ _ (sym lookup.0)) in
    let found : block ≡ get_or full number block = rw is at lookup.1 in
    let view = ap (λ v. block_at number v.items) c.self.view_is in
    c.as_slice.ensures.value ∙ ap (λ b. b.items) found ∙ sym (block_of (λ b. b.items) full last number block c.self.invariant.0.0 within) ∙ view

pub returns-in-None : goal.returns-in-None
returns-in-None g c =
    let full = c.self.inside.full.items in
    let last = c.self.inside.last.items in
    let number : c.args.number ≡ length full = search rules in
    let view = ap (λ v. block_at c.args.number v.items) c.self.view_is in
    c.as_slice-in-None.ensures.value ∙ sym (rw number (last_block (λ b. b.items) full last c.self.invariant.0.0 c.self.invariant.1.0)) ∙ view

pub returns-in-None-2 : goal.returns-in-None-2
returns-in-None-2 g c =
    let full = c.self.inside.full.items in
    let last = c.self.inside.last.items in
    let after : length full < c.args.number = search rules in
    let view = ap (λ v. block_at c.args.number v.items) c.self.view_is in
    sym (no_block (λ b. b.items) full last c.args.number c.self.invariant.0.0 c.self.invariant.1.0 after) ∙ view
