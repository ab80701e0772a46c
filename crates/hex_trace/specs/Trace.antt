-- What a trace says: its lines, one after another (own).
use Rattle.std.specs.Prelude.{◌≡◌, ℕ, ◌+◌, [], ◌∷◌, ◌++◌, ◌==◌, Bool, true, false, List, Option, None, Some, Result, Ok, Err}
use Rattle.std.specs.List.{slice_split}
use Rattle.hex_trace.specs.Frames.{TimedFrame}
use Rattle.hex_trace.specs.declared.fault.TraceCause.{TraceCause}
use Rattle.hex_trace.specs.declared.fault.TraceFault.{TraceFault}
use Rattle.hex_trace.specs.declared.fault.TraceFault.TheVariants.{Line, Read, Memory}
use Rattle.hex_trace.specs.Line.{frame_from}
use Rattle.hex_trace.specs.Source.{Given, IsWholeText}

-- the byte with which a line ends, 0a
abbrev pub line_end : ℕ
line_end = 10

-- rule: TRACE-4
abbrev pub is_line_end : ℕ → Bool
is_line_end b = b == line_end

-- these frames, and then those that are read
abbrev pub with_front : List TimedFrame → Result (List TimedFrame) (ℕ × TraceCause) → Result (List TimedFrame) (ℕ × TraceCause)
with_front front (Ok frames) = Ok (front ++ frames)
with_front front (Err fault) = Err fault

-- what the line with this line number says, and then the lines that follow, which are read by the
-- time of the frame before them
-- rule: TRACE-7, TRACE-13
abbrev pub and_then : ℕ → ℕ → Result (Option TimedFrame) TraceCause → (ℕ → Result (List TimedFrame) (ℕ × TraceCause)) → Result (List TimedFrame) (ℕ × TraceCause)
and_then line_number before (Ok None) next = next before
and_then line_number before (Ok (Some frame)) next = with_front (frame ∷ []) (next frame.time)
and_then line_number before (Err cause) next = Err (line_number, cause)

-- the frames of lines from this line number on, which follow a frame of the time `before`; or the first
-- fault, with its line number
abbrev pub frames_from : ℕ → ℕ → List (List ℕ) → Result (List TimedFrame) (ℕ × TraceCause)
frames_from line_number before [] = Ok []
frames_from line_number before (line ∷ lines) = and_then line_number before (frame_from before line) (λ time. frames_from (line_number + 1) time lines)

-- the frames in a text, or its first fault
-- rule: TRACE-1, TRACE-4, TRACE-7
abbrev pub frames_of_text : List ℕ → Result (List TimedFrame) (ℕ × TraceCause)
frames_of_text text = frames_from 1 0 (slice_split is_line_end text)

-- the whole of a source was read, no read failed, and its text says this
abbrev pub Says : Given → Result (List TimedFrame) (ℕ × TraceCause) → Type 0
Says given said = (given.failed ≡ false) × ((text : List ℕ) × IsWholeText given text × (frames_of_text text ≡ said))

-- reading a trace returns this: its frames, or its first fault; that a read failed, exactly if one
-- did; or that memory ran out
-- rule: TRACE-11
abbrev pub ReadsTrace : Given → Result (List TimedFrame) TraceFault → Type 0
ReadsTrace given (Ok frames) = Says given (Ok frames)
ReadsTrace given (Err (Line line cause)) = Says given (Err (line, cause))
ReadsTrace given (Err Read) = given.failed ≡ true
ReadsTrace given (Err Memory) = given.failed ≡ false
