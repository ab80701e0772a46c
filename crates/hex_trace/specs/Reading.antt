-- What a trace says that is read piece by piece.
use Rattle.std.specs.Prelude.{ℕ, List, ◌++◌, Result}
use Rattle.hex_trace.specs.Frames.{TimedFrame}
use Rattle.hex_trace.specs.declared.fault.TraceCause.{TraceCause}
use Rattle.hex_trace.specs.declared.lines.Lines.{Lines}
use Rattle.hex_trace.specs.Lines.{said_by}

-- what was read of a trace and not yet taken out: its lines, and the front of the line that hasn't ended
pub record Read : Type 0 where
  pub lines : Lines
  pub front : List ℕ

abbrev pub read_so_far : Lines → List ℕ → Read
read_so_far lines front = record { lines = lines; front = front }

-- what the trace says if this text follows what was read of it
abbrev pub said_after : Read → List ℕ → Result (List TimedFrame) (ℕ × TraceCause)
said_after read text = said_by read.lines (read.front ++ text)
