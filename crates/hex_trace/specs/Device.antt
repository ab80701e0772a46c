-- What the answers of the standard library's readers and writers say.
use Rattle.std.specs.Prelude.{ℕ, Option, None, Some, Result, Ok, Err}
use Rattle.std.specs.declared.io.Error.{Error}
use Rattle.std.specs.declared.io.ErrorKind.{ErrorKind}
use Rattle.std.specs.declared.io.ErrorKind.TheVariants.{Interrupted}
use Rattle.std.specs.IoError.{error_kind}
use Rattle.hex_trace.specs.declared.device.Failed.{Failed}

-- an interrupted call says nothing; it is made again
abbrev pub failed_by : ErrorKind → Option (Result ℕ Failed)
failed_by Interrupted = None
failed_by _ = Some (Err (record {}))

-- rule: TRACE-11
abbrev pub told_count : Result ℕ Error → Option (Result ℕ Failed)
told_count (Ok count) = Some (Ok count)
told_count (Err error) = failed_by (error_kind error)
