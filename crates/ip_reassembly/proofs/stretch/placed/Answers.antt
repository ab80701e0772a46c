use Rattle.std.proofs.Common.{◌≡◌, replicate, arith}
use Rattle.std.proofs.lemmas.Grind.{common_steps}
use Rattle.ip_reassembly.proofs.Stretches.{placed_by}
use Rattle.ip_reassembly.proofs.stretch.placed.Goals as goal

pub returns : goal.returns
returns g c =
    let first : c.resize.new.self.items ≡ replicate c.args.least c.args.other = grind (arith, common_steps) in
    placed_by c.args.other c.args.least _ c.args.some.now c.resize.new.self.items c.extend_from_slice.new.self.items c.resize-2.new.self.items
    c.requires first c.in_ok-extend_from_slice.ensures.items (omega (arith, c.in_ok-extend_from_slice.ensures.len, c.in_ok-resize.ensures.len)) c.in_ok-resize-2.ensures.items
