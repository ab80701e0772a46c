-- The handle of a network's pass after its room's contents were lent.
use Rattle.std.specs.Prelude.{Option}
use Rattle.std.specs.Borrow.{Lends, LendsIf, MutBor, Fml}
use Rattle.system_c.specs.declared.marked.MarkedPass.{MarkedPass}
use Rattle.system_c.specs.contracts.marked.MarkedPass.{the_row as room_row}
use Rattle.system_c.specs.declared.pass_handle.PassHandle.{PassHandle as Handle}
use Rattle.system_c.specs.contracts.pass_handle.PassHandle.{the_row}

abbrev pub with_slot : Handle → MarkedPass → Handle
with_slot h w = record h { room = w }

abbrev pub LendsRoom : MutBor Handle → MutBor MarkedPass → Fml
LendsRoom h r = Lends the_row room_row h r (with_slot h.now)

-- the same, and the handle is as it was if nothing was lent
abbrev pub LendsRoomIf : MutBor Handle → Option (MutBor MarkedPass) → Fml
LendsRoomIf h r = LendsIf the_row room_row h r (with_slot h.now) h.now
