-- The words by which the faults of lines are printed (own).
use Rattle.std.specs.Prelude.{ℕ, List, codes}
use Rattle.hex_trace.specs.declared.fault.TraceCause.{TraceCause}
use Rattle.hex_trace.specs.declared.fault.TraceCause.TheVariants as causes

-- rule: FAULT-6
abbrev pub cause_word : TraceCause → List ℕ
cause_word causes.LongLine = codes "long line"
cause_word causes.Time = codes "time"
cause_word causes.Space = codes "space"
cause_word causes.Hex = codes "hex"
cause_word causes.Falls = codes "time falls"
