-- Contents of a room in which a slot was made: the mark of its kind, and nothing open.
use Rattle.std.specs.Prelude.{None}
use Rattle.receiver_slots.specs.declared.reader_slot.ReaderState.TheVariants.{Closed}
use Rattle.slot_handles.specs.declared.marked.MarkedReader.{MarkedReader}
use Rattle.slot_handles.specs.declared.marked.MarkedReceiver.{MarkedReceiver}
use Rattle.slot_handles.specs.declared.marked.MarkedTaker.{MarkedTaker}
use Rattle.slot_handles.specs.Marks.{reader_mark, receiver_mark, taker_mark}

-- rule: EMB-13
abbrev pub made_receiver : MarkedReceiver
made_receiver = record { mark = receiver_mark; slot = None }

-- rule: EMB-13
abbrev pub made_reader : MarkedReader
made_reader = record { mark = reader_mark; slot = Closed }

-- rule: EMB-13
abbrev pub made_taker : MarkedTaker
made_taker = record { mark = taker_mark; slot = None }
