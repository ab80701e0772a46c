use Rattle.std.proofs.Common.{◌≡◌, ℕ, List, [], ◌++◌, false}
use Rattle.std.specs.Io.KnownBytes.{Consumes}
use Rattle.hex_trace.specs.Reading.{said_after}
use Rattle.hex_trace.specs.Trace.{frames_of_text, with_front}
use Rattle.hex_trace.proofs.trace.read_trace.Given as goal

-- what was read is what the source lost, and says what it says
abbrev pub invariant-pieces : goal.invariant-pieces
invariant-pieces g l =
    record {
      bytes : List ℕ;
      consumed : Consumes (g.S.Source.remaining l.fn.source) (g.S.Source.remaining l.source) bytes;
      said : (text : List ℕ) → frames_of_text (bytes ++ text) ≡ with_front [] (said_after l.reading text);
      flag : g.S.Source.has_failed l.source ≡ false;
    }
