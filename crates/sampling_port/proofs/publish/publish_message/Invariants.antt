use Rattle.std.proofs.Common.{◌≡◌, length}
use Rattle.slot_core.specs.Octets.{words_of}
use Rattle.sampling_port.proofs.Stores.{IsScanning, IsStoring}
use Rattle.sampling_port.proofs.publish.publish_message.Given as goal

abbrev pub invariant-loop-reader : goal.invariant-loop-reader
invariant-loop-reader g l = record {
  port : l.seat.port ≡ l.fn.seat.port;
  size : length l.taken ≡ g.row.READERS;
  scanning : IsScanning l.fn.seat.knows l.seat.knows l.taken l.reader;
}

abbrev pub invariant-loop-index : goal.invariant-loop-index
invariant-loop-index g l = record {
  port : l.seat.port ≡ l.fn.seat.port;
  storing : IsStoring l.initial.seat.knows l.seat.knows l.slot (words_of l.octets l.time) l.index;
}
