use Rattle.std.proofs.Common.{◌≡◌, ◌<◌, ◌≤◌, ◌-◌, ◌^◌, false, length, slice_index, true, arith, rules}
use Rattle.std.proofs.lemmas.List.Sums.{prefix_len-le-length}
use Rattle.std.specs.Char.{is_ascii_digit}
use Rattle.hex_trace.proofs.Digits.{digit_range, more_digits, no_more_digits, number_more, short_number}
use Rattle.hex_trace.proofs.line.leading_number.Goals as goal

pub returns-then-not-is_ascii_digit-clause-count : goal.returns-then-not-is_ascii_digit-clause-count
returns-then-not-is_ascii_digit-clause-count c short =
    let is : is_ascii_digit (slice_index c.args.line.now c.digits.i) ≡ false = search rules in
    no_more_digits c.args.line.now c.digits.i c.digits.invariant.are is

pub overflow_mul-number : goal.overflow_mul-number
overflow_mul-number c =
    let i = c.digits.i in
    let short : i < 19 = search rules in
    let small : c.digits.number < 10 ^ 18 = rw c.digits.invariant.said (short_number c.args.line.now i c.digits.invariant.are short) in
    record { fits = omega (arith, small) }

pub overflow_add-number : goal.overflow_add-number
overflow_add-number c =
    let i = c.digits.i in
    let short : i < 19 = search rules in
    let small : c.digits.number < 10 ^ 18 = rw c.digits.invariant.said (short_number c.args.line.now i c.digits.invariant.are short) in
    let is : is_ascii_digit (slice_index c.args.line.now i) ≡ true = search rules in
    let digit = digit_range (slice_index c.args.line.now i) is in
    let value : c.from.result ≡ slice_index c.args.line.now i - 48 = search rules in
    record { fits = omega (arith, small, value, digit.0, digit.1) }

pub digits-preserved : goal.digits-preserved
digits-preserved c =
    let line = c.args.line.now in
    let i = c.digits.i in
    let within : i < length line = search rules in
    let is : is_ascii_digit (slice_index line i) ≡ true = search rules in
    let value : c.from.result ≡ slice_index line i - 48 = search rules in
    record {
      are = more_digits line i within c.digits.invariant.are is;
      said = omega (arith, c.digits.invariant.said, value, number_more line i within is);
    }

pub returns-clause-count : goal.returns-clause-count
returns-clause-count c short =
    let line = c.args.line.now in
    let end : length line ≤ c.digits.i = search rules in
    let whole : c.min-most.result ≡ length line = search rules in
    omega (arith, end, whole, c.digits.invariant.are, prefix_len-le-length is_ascii_digit line)
