-- The handle of a reader after its room's contents were lent.
use Rattle.std.specs.Prelude.{Option}
use Rattle.std.specs.Borrow.{Lends, LendsIf, MutBor, Fml}
use Rattle.slot_handles.specs.declared.marked.MarkedReader.{MarkedReader}
use Rattle.slot_handles.specs.contracts.marked.MarkedReader.{the_row as room_row}
use Rattle.slot_handles.specs.declared.reader_handle.ReaderHandle.{ReaderHandle as Handle}
use Rattle.slot_handles.specs.contracts.reader_handle.ReaderHandle.{the_row}

abbrev pub with_slot : Handle → MarkedReader → Handle
with_slot h w = record h { room = w }

abbrev pub LendsRoom : MutBor Handle → MutBor MarkedReader → Fml
LendsRoom h r = Lends the_row room_row h r (with_slot h.now)

-- the same, and the handle is as it was if nothing was lent
abbrev pub LendsRoomIf : MutBor Handle → Option (MutBor MarkedReader) → Fml
LendsRoomIf h r = LendsIf the_row room_row h r (with_slot h.now) h.now
