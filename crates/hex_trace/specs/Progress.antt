-- Result of reading one more piece of a trace.
use Rattle.std.specs.Prelude.{◌≡◌, ℕ, Bool, true, false, List, [], ◌++◌, Option, Result, Ok, Err}
use Rattle.std.specs.Io.KnownBytes.{Consumes, IsAtEnd}
use Rattle.hex_trace.specs.declared.fault.TraceFault.{TraceFault}
use Rattle.hex_trace.specs.declared.fault.TraceFault.TheVariants as faults
use Rattle.hex_trace.specs.declared.trace.Progress.{Progress}
use Rattle.hex_trace.specs.declared.trace.Progress.TheVariants.{More, Ended}
use Rattle.hex_trace.specs.Reading.{Read, said_after}

-- nothing more comes of the source, and no read failed
abbrev pub IsEnd : Option (List ℕ) → Option (List ℕ) → Bool → Type 0
IsEnd old new failed = (failed ≡ false) × Consumes old new [] × IsAtEnd new

-- some bytes more were read; or the source has ended, and these are the frames of what was read, or it has the fault
-- that is returned; or a read failed, exactly if one did; or memory ran out
abbrev pub ReadsOn : Option (List ℕ) → Option (List ℕ) → Bool → Read → Result Progress TraceFault → Type 0
ReadsOn old new failed before (Ok (More after)) =
    (failed ≡ false) × ((bytes : List ℕ) × Consumes old new bytes × ((text : List ℕ) → said_after after text ≡ said_after before (bytes ++ text)))
ReadsOn old new failed before (Ok (Ended frames)) = IsEnd old new failed × (said_after before [] ≡ Ok frames)
ReadsOn old new failed before (Err (faults.Line line cause)) = IsEnd old new failed × (said_after before [] ≡ Err (line, cause))
ReadsOn old new failed before (Err faults.Read) = failed ≡ true
ReadsOn old new failed before (Err faults.Memory) = failed ≡ false
