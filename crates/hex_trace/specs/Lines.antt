-- What a trace says whose first lines were read.
use Rattle.std.specs.Prelude.{◌≡◌, ℕ, false, List, [], ◌∷◌, ◌++◌, Option, None, Some, Result, Ok, Err}
use Rattle.std.specs.List.{All, slice_split}
use Rattle.hex_trace.specs.Frames.{TimedFrame}
use Rattle.hex_trace.specs.declared.fault.TraceCause.{TraceCause}
use Rattle.hex_trace.specs.declared.fault.TraceFault.{TraceFault}
use Rattle.hex_trace.specs.declared.fault.TraceFault.TheVariants.{Line, Read, Memory}
use Rattle.hex_trace.specs.declared.lines.Lines.{Lines}
use Rattle.hex_trace.specs.Trace.{is_line_end, line_end, with_front, frames_from}

abbrev pub said_if : Option (ℕ × TraceCause) → Result (List TimedFrame) (ℕ × TraceCause) → Result (List TimedFrame) (ℕ × TraceCause)
said_if (Some fault) said = Err fault
said_if None said = said

-- what a trace says in which these lines follow those that were read
abbrev pub said_with : Lines → List (List ℕ) → Result (List TimedFrame) (ℕ × TraceCause)
said_with lines more = said_if lines.fault (with_front lines.frames (frames_from lines.line_number lines.before more))

-- what a trace says in which this text follows the lines that were read
abbrev pub said_by : Lines → List ℕ → Result (List TimedFrame) (ℕ × TraceCause)
said_by lines text = said_with lines (slice_split is_line_end text)

-- the skipped lines, each with its end, after a line that says this: a line without a frame is one of them
-- rule: TRACE-12
abbrev pub skipped_after : List ℕ → List ℕ → Result (Option TimedFrame) TraceCause → List ℕ
skipped_after skipped line (Ok None) = skipped ++ line ++ line_end ∷ []
skipped_after skipped line (Ok (Some frame)) = skipped
skipped_after skipped line (Err cause) = skipped

-- no line ends in a text
abbrev pub HasNoEnd : List ℕ → Type 0
HasNoEnd text = All (λ b. is_line_end b ≡ false) text

-- what is returned is what the trace says, unless memory ran out
abbrev pub TellsTrace : Result (List TimedFrame) (ℕ × TraceCause) → Result (List TimedFrame) TraceFault → Type 0
TellsTrace said (Ok frames) = said ≡ Ok frames
TellsTrace said (Err (Line line cause)) = said ≡ Err (line, cause)
TellsTrace said (Err Read) = ⊥
TellsTrace said (Err Memory) = Unit {0}
