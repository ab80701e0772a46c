use Rattle.std.proofs.Common.{◌%◌, ◌+◌, bit_or}
use Rattle.std.proofs.lemmas.Bool.{lt-ltb, le-ltb}
use Rattle.hex_trace.proofs.Bytes.{right}
use Rattle.hex_trace.proofs.decode.digit_value.Goals as goal

pub returns-then-letter-lt6 : goal.returns-then-letter-lt6
returns-then-letter-lt6 c =
    let b = c.args.b in
    rw (le-ltb ((b + 208) % 256) 10 c.if-decimal-lt10.false, lt-ltb ((bit_or b 32 + 159) % 256) 6 c.if-letter-lt6.true) at (right b c.ranges.b.fits)

pub returns-else-letter-lt6 : goal.returns-else-letter-lt6
returns-else-letter-lt6 c =
    let b = c.args.b in
    rw (le-ltb ((b + 208) % 256) 10 c.if-decimal-lt10.false, le-ltb ((bit_or b 32 + 159) % 256) 6 c.if-letter-lt6.false) at (right b c.ranges.b.fits)
