use Rattle.std.proofs.Common.{◌+◌, arith, rules, sym}
use Rattle.hex_trace.proofs.Digits.{all_read, digit_in, one_more, time_refused, value_so_far}
use Rattle.hex_trace.proofs.line.time_from.Goals as goal

pub with_digit-requires : goal.with_digit-requires
with_digit-requires c = record { low = (digit_in c.args.digits.now c.digits.digit-index c.requires c.digits-test.true).0 }

pub digits-preserved : goal.digits-preserved
digits-preserved c =
    let more = one_more c.args.digits.now c.digits.digit-index c.requires c.digits-test.true in
    record {
      said = omega (arith, more, c.in-Some.ensures, c.digits.invariant.said);
      fits = search rules;
    }

pub returns-in-None : goal.returns-in-None
returns-in-None c =
    let digits = c.args.digits.now in
    let i = c.digits.digit-index in
    let more = one_more digits i c.requires c.digits-test.true in
    sym (time_refused digits (λ told. c.in-None.ensures (omega (arith, more, value_so_far digits (i + 1), c.digits.invariant.said, told.1))))

pub returns : goal.returns
returns c =
    all_read c.args.digits.now c.digits.digit-index c.digits.time c.digits-test.false (search rules) c.digits.invariant.fits c.digits.invariant.said
