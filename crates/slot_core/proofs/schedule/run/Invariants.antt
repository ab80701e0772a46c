use Rattle.std.proofs.Common.{take}
use Rattle.slot_core.specs.Limits.{port_readers, port_slots}
use Rattle.slot_core.specs.Runs.{LeadTo}
use Rattle.slot_core.proofs.schedule.run.Given as goal

abbrev pub invariant-loop-place : goal.invariant-loop-place
invariant-loop-place l = LeadTo port_readers port_slots (take l.place l.events) l.core
