use Rattle.std.proofs.Common.{◌≡◌, ◌∙◌, ◌+◌, ◌-◌, ◌*◌, ◌≤◌, length, refl, sym, ap, arith, rules}
use Rattle.std.proofs.lemmas.List.{take_all}
use Rattle.hex.specs.Hex.{encode_lower, encode_with}
use Rattle.output_lines.proofs.Encoded.{fewer}
use Rattle.output_lines.proofs.encode.encode_blocks.Goals as goal

pub whole-init : goal.whole-init
unfolding encode_with
whole-init c = record { digits = refl; pairs = c.requires.pairs }

pub returns : goal.returns
returns c =
    let octets = c.args.octets.now in
    let count = 16 * c.whole.block in
    let at = length octets - 16 in
    let digits = c.encode_block-2.new.digits in
    let within : at ≤ count = search rules in
    let end : at + 16 ≡ length octets = omega (arith, c.requires.block) in
    let long : length digits ≡ 2 * length octets = omega (arith, c.encode_block-2.ensures.length, c.whole.invariant.pairs) in
    let are = c.encode_block-2.ensures.digits (fewer octets c.whole.digits count at within c.whole.invariant.digits) in
    sym (take_all (2 * (at + 16)) digits (omega arith)) ∙ are ∙ ap encode_lower (take_all (at + 16) octets (omega arith))
