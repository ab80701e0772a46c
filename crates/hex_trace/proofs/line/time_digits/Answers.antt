use Rattle.hex_trace.proofs.Digits.{digits_first}
use Rattle.hex_trace.proofs.line.time_digits.Goals as goal

pub returns-else-eq-clause-digits : goal.returns-else-eq-clause-digits
returns-else-eq-clause-digits c = rw c.leading_digits.ensures.value (digits_first c.args.line.now)
