use Rattle.std.proofs.Common.{length, ap, rules}
use Rattle.block_list.proofs.Blocks.{whole_length}
use Rattle.block_list.proofs.BlockList.len.Goals as goal

pub returns : goal.returns
returns g c =
    let whole = whole_length (λ b. b.items) c.self.inside.full.items c.self.inside.last.items c.self.invariant.0.0 in
    let view = ap (λ v. length v.items) c.self.view_is in
    search rules
