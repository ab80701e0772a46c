use Rattle.std.proofs.Common.{◌∙◌, slice_get, ◌%◌, ap}
use Rattle.block_list.proofs.Blocks.{got, in_block}
use Rattle.block_list.proofs.BlockList.get.Goals as goal

pub returns : goal.returns
returns g c =
    let place = c.args.place in
    got c.block.result.now (place % 1024) c.get.result c.get.ensures.lookup.0 c.get.ensures.lookup.1 ∙ ap (λ xs. slice_get xs (place % 1024)) c.block.ensures ∙ in_block c.args.self.now.items place
