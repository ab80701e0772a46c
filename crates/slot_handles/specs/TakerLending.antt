-- The handle of a taker after its room's contents were lent.
use Rattle.std.specs.Prelude.{Option}
use Rattle.std.specs.Borrow.{Lends, LendsIf, MutBor, Fml}
use Rattle.slot_handles.specs.declared.marked.MarkedTaker.{MarkedTaker}
use Rattle.slot_handles.specs.contracts.marked.MarkedTaker.{the_row as room_row}
use Rattle.slot_handles.specs.declared.taker_handle.TakerHandle.{TakerHandle as Handle}
use Rattle.slot_handles.specs.contracts.taker_handle.TakerHandle.{the_row}

abbrev pub with_slot : Handle → MarkedTaker → Handle
with_slot h w = record h { room = w }

abbrev pub LendsRoom : MutBor Handle → MutBor MarkedTaker → Fml
LendsRoom h r = Lends the_row room_row h r (with_slot h.now)

-- the same, and the handle is as it was if nothing was lent
abbrev pub LendsRoomIf : MutBor Handle → Option (MutBor MarkedTaker) → Fml
LendsRoomIf h r = LendsIf the_row room_row h r (with_slot h.now) h.now
