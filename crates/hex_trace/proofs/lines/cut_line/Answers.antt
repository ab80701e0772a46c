use Rattle.std.proofs.Common.{◌+◌, drop}
use Rattle.std.proofs.Math.Seq.{take-length}
use Rattle.std.proofs.lemmas.List.{length-drop}
use Rattle.hex_trace.proofs.Ends.{first_line_of}
use Rattle.hex_trace.proofs.lines.cut_line.Goals as goal

pub returns-in-Some-clause-line : goal.returns-in-Some-clause-line
returns-in-Some-clause-line c more =
    let found = c.in-Some.ensures in
    let text = c.args.text.now in
    let next = c.in-Some.end + 1 in
    rw (← length-drop next text, take-length (drop next text)) (first_line_of text more c.in-Some.end found.0.high found.0.before found.1)
