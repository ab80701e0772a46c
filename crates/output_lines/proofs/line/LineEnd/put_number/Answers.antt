use Rattle.std.proofs.Common.{◌≡◌, ◌+◌, ◌≤◌, ◌∙◌, ℕ, ap, length, drop, arith, length-drop, length-append}
use Rattle.std.specs.Fmt.{decimal}
use Rattle.std.proofs.lemmas.Fmt.{length-decimal-le}
use Rattle.output_lines.proofs.line.LineEnd.put_number.Goals as goal

pub write_digits-self-inside-requires : goal.write_digits-self-inside-requires
write_digits-self-inside-requires c =
    let fits = c.ranges.number.fits in
    let short : length (decimal c.args.number) ≤ 20 = length-decimal-le 20 c.args.number (omega arith) (omega arith) (omega arith) in
    let whole = c.self.told in
    let within = c.self.invariant in
    let view : length (drop c.self.inside.start c.self.inside.bytes) ≡ length c.args.self.now = ap length c.self.view_is in
    let room = c.requires.room in
    (omega (arith, length-drop c.self.inside.start c.self.inside.bytes), omega arith)

pub returns-clause-len : goal.returns-clause-len
returns-clause-len c =
    let fits = c.ranges.number.fits in
    let short : length (decimal c.args.number) ≤ 20 = length-decimal-le 20 c.args.number (omega arith) (omega arith) (omega arith) in
    let longer : length (drop c.write_digits-self-inside.result c.write_digits-self-inside.new.buf) ≡ length (decimal c.args.number) + length c.args.self.now =
    ap length c.write_digits-self-inside.ensures.written ∙ length-append _ _ ∙ ap (λ (more : ℕ). length (decimal c.args.number) + more) (ap length c.self.view_is) in
    omega arith
