use Rattle.std.proofs.Common.{◌≡◌, ◌-◌, ◌≤◌, ℕ, List, ◌++◌, length, drop}
use Rattle.hex_trace.specs.Lines.{said_by}
use Rattle.hex_trace.proofs.lines.Lines.take_lines.Given as goal

-- what the lines so far and the rest say is what the whole says
abbrev pub invariant-lines : goal.invariant-lines
invariant-lines l =
    record {
      said : (more : List ℕ) → said_by l.self (l.rest ++ more) ≡ said_by l.fn.self (l.text ++ more);
      place : l.rest ≡ drop (length l.text - length l.rest) l.text;
      within : length l.rest ≤ length l.text;
    }

abbrev pub decreases-lines : goal.decreases-lines
decreases-lines l = length l.rest
