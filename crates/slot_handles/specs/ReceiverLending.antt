-- The handle of a receiver after its room's contents were lent.
use Rattle.std.specs.Prelude.{Option}
use Rattle.std.specs.Borrow.{Lends, LendsIf, MutBor, Fml}
use Rattle.slot_handles.specs.declared.marked.MarkedReceiver.{MarkedReceiver}
use Rattle.slot_handles.specs.contracts.marked.MarkedReceiver.{the_row as room_row}
use Rattle.slot_handles.specs.declared.receiver_handle.ReceiverHandle.{ReceiverHandle as Handle}
use Rattle.slot_handles.specs.contracts.receiver_handle.ReceiverHandle.{the_row}

abbrev pub with_slot : Handle → MarkedReceiver → Handle
with_slot h w = record h { room = w }

abbrev pub LendsRoom : MutBor Handle → MutBor MarkedReceiver → Fml
LendsRoom h r = Lends the_row room_row h r (with_slot h.now)

-- the same, and the handle is as it was if nothing was lent
abbrev pub LendsRoomIf : MutBor Handle → Option (MutBor MarkedReceiver) → Fml
LendsRoomIf h r = LendsIf the_row room_row h r (with_slot h.now) h.now
