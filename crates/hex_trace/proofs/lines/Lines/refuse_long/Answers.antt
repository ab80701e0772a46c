use Rattle.std.proofs.Common.{sym}
use Rattle.hex_trace.proofs.Ends.{refused}
use Rattle.hex_trace.proofs.lines.Lines.refuse_long.Goals as goal

pub returns-then-front-gt-LONGEST_LINE : goal.returns-then-front-gt-LONGEST_LINE
returns-then-front-gt-LONGEST_LINE c more =
    let old = c.args.self.now in
    sym (rw c.requires.fault (refused old.line_number old.before old.frames c.args.front.now more c.requires.line c.if-front-gt-LONGEST_LINE.true))
