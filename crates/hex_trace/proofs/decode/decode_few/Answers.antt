use Rattle.std.proofs.Common.{◌≡◌, ◌+◌, ◌*◌, ◌/◌, ◌<◌, length, slice_index, sym, ◌∙◌, arith, rules}
use Rattle.std.specs.Simd.{first_chunks}
use Rattle.std.specs.Slice.Iter.{iter_rest}
use Rattle.hex_trace.specs.Digits.{digit_value}
use Rattle.hex_trace.proofs.Pairs.{digit_at, next_pair, one_more, all_pairs}
use Rattle.hex_trace.proofs.decode.decode_few.Goals as goal

pub pairs-preserved : goal.pairs-preserved
pairs-preserved c =
    let digits = c.args.digits.now in
    let i = c.pairs.octet-index in
    let chunks = first_chunks 2 (length digits / 2) digits in
    let within : i < length digits / 2 = search rules in
    let next = next_pair i chunks (iter_rest c.next.new.self) c.in-Some.pair.now (sym c.pairs.invariant.left ∙ c.in-Some.ensures.steps) in
    let high : c.digit_value-high.result ≡ digit_value (slice_index digits (2 * i)) =
    rw (sym next.0, digit_at digits (length digits / 2) i 0 (2 * i) within (omega arith) (omega arith)) at c.digit_value-high.ensures in
    let low : c.digit_value-low.result ≡ digit_value (slice_index digits (2 * i + 1)) =
    rw (sym next.0, digit_at digits (length digits / 2) i 1 (2 * i + 1) within (omega arith) (omega arith)) at c.digit_value-low.ensures in
    record {
      said = one_more c.pairs.are_digits digits c.pairs.octets i _ _ (search rules) (search rules) high low c.pairs.invariant.said;
      left = sym next.1;
    }

pub returns-after-pairs : goal.returns-after-pairs
returns-after-pairs c = all_pairs c.pairs.are_digits c.args.digits.now c.pairs.octets c.pairs.octet-index (search rules) (search rules) c.pairs.invariant.said
