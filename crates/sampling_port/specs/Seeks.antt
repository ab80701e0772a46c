-- How the looks of a read end.
use Rattle.std.specs.Prelude.{ℕ}
use Rattle.sampling_port.specs.Ends.{IsHeldAfter, IsNothing, IsReadOvertaken, end_of_reader}
use Rattle.sampling_port.specs.Reads.{IsHeld, IsIdle}
use Rattle.sampling_port.specs.Seats.{ReaderSeated}
use Rattle.sampling_port.specs.declared.seek.Sought.{Sought}
use Rattle.sampling_port.specs.declared.seek.Sought.TheVariants.{Empty, Busy, Found}

-- rule: SAMP-23
abbrev pub SeekAnswer : ℕ → ReaderSeated → ReaderSeated → ℕ → Sought → Type 0
SeekAnswer slots v w tries Empty = IsIdle w.knows.view × IsNothing (end_of_reader v) (end_of_reader w)
SeekAnswer slots v w tries (Busy number) = IsIdle w.knows.view × IsReadOvertaken (end_of_reader v) (end_of_reader w) tries number
SeekAnswer slots v w tries (Found word) = IsHeld slots w.knows.view word × IsHeldAfter (end_of_reader v) (end_of_reader w) tries 0
