-- Contents of a room in which a system's or a pass's slot was made.
use Rattle.std.specs.Prelude.{None}
use Rattle.system_c.specs.declared.marked.MarkedSystem.{MarkedSystem}
use Rattle.system_c.specs.declared.marked.MarkedPass.{MarkedPass}
use Rattle.slot_handles.specs.Marks.{pass_mark, system_mark}

-- rule: EMB-13
abbrev pub made_system : MarkedSystem
made_system = record { mark = system_mark; slot = None }

-- rule: EMB-13
abbrev pub made_pass : MarkedPass
made_pass = record { mark = pass_mark; slot = None }
