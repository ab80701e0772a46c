-- The handle of a system after its room's contents were lent.
use Rattle.std.specs.Prelude.{Option}
use Rattle.std.specs.Borrow.{Lends, LendsIf, MutBor, Fml}
use Rattle.system_c.specs.declared.marked.MarkedSystem.{MarkedSystem}
use Rattle.system_c.specs.contracts.marked.MarkedSystem.{the_row as room_row}
use Rattle.system_c.specs.declared.system_handle.SystemHandle.{SystemHandle as Handle}
use Rattle.system_c.specs.contracts.system_handle.SystemHandle.{the_row}

abbrev pub with_slot : Handle → MarkedSystem → Handle
with_slot h w = record h { room = w }

abbrev pub LendsRoom : MutBor Handle → MutBor MarkedSystem → Fml
LendsRoom h r = Lends the_row room_row h r (with_slot h.now)

-- the same, and the handle is as it was if nothing was lent
abbrev pub LendsRoomIf : MutBor Handle → Option (MutBor MarkedSystem) → Fml
LendsRoomIf h r = LendsIf the_row room_row h r (with_slot h.now) h.now
