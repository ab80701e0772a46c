use Rattle.std.proofs.Common.{refl}
use Rattle.std.proofs.lemmas.Simd.{length-chunk}
use lib.Lanes.{chunk}
use Rattle.output_lines.proofs.Encoded.{block_stored, woven}
use Rattle.output_lines.proofs.encode.encode_block.Goals as goal

pub returns-clause-digits : goal.returns-clause-digits
returns-clause-digits c before =
    let block = chunk c.args.at 16 c.args.octets.now in
    let long = length-chunk c.args.at 16 c.args.octets.now c.requires.block in
    block_stored c.args.octets.now c.args.digits.now _ _ c.args.at c.requires.pairs c.requires.block refl refl
    (woven block c.digits_of-high.result c.digits_of-low.result long c.digits_of-high.ensures c.digits_of-low.ensures) before
