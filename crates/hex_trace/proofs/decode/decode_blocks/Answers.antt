use Rattle.std.proofs.Common.{◌≡◌, ◌+◌, ◌-◌, ◌*◌, ◌≤◌, length, arith, rules}
use Rattle.hex_trace.proofs.Decoded.{decoded, more_marks, more_octets, no_marks}
use Rattle.hex_trace.proofs.Marks.{marks_tested}
use Rattle.hex_trace.proofs.decode.decode_blocks.Goals as goal

pub whole-init : goal.whole-init
whole-init c =
    record {
      marks = no_marks c.args.digits.now;
      octets = λ i early. absurd (omega arith);
      pairs = c.requires.pairs;
    }

pub whole-preserved : goal.whole-preserved
whole-preserved c =
    let digits = c.args.digits.now in
    let at = 16 * c.whole.block in
    let block = c.decode_block-marks.ensures in
    record {
      marks = more_marks digits c.whole.least c.decode_block-marks.result c.smaller-least.result at at (16 * (c.whole.block + 1)) (omega arith) (omega arith) (omega arith) c.smaller-least.ensures c.whole.invariant.marks block.marks;
      octets = more_octets digits c.whole.octets c.decode_block-marks.new.octets at at (16 * (c.whole.block + 1)) (omega arith) (omega arith) c.whole.invariant.octets block.before block.octets;
      pairs = omega (arith, c.whole.invariant.pairs, block.length);
    }

pub returns : goal.returns
returns c =
    let digits = c.args.digits.now in
    let count = 16 * c.whole.block in
    let octets = c.decode_block-marks-2.new.octets in
    let many : length c.whole.octets ≡ length c.args.octets.now = omega (arith, c.whole.invariant.pairs, c.requires.pairs) in
    let at = length c.whole.octets - 16 in
    let block = c.decode_block-marks-2.ensures in
    let no_gap : at ≤ count = search rules in
    let within : count ≤ length octets = search rules in
    let end : length octets ≡ at + 16 = omega (arith, block.length, many, c.requires.block) in
    let marks = more_marks digits c.whole.least c.decode_block-marks-2.result c.smaller-least-2.result count at (length octets) no_gap within end c.smaller-least-2.ensures c.whole.invariant.marks block.marks in
    let tested = marks_tested c.smaller-least-2.result (search rules) in
    decoded _ digits octets (omega (arith, c.whole.invariant.pairs, block.length))
    (λ fine. marks.0 (tested.0 fine), λ pairs. tested.1 (marks.1 pairs))
    (more_octets digits c.whole.octets octets count at (length octets) no_gap end c.whole.invariant.octets block.before block.octets)
