use Rattle.std.proofs.Common.{◌≡◌, ◌++◌, map}
use Rattle.std.specs.Array.Iter.{array_into_iter_items}
use Rattle.sampling_port.specs.Ends.{end_of_reader}
use Rattle.sampling_port.specs.Seats.{new_seats}
use Rattle.sampling_port.proofs.open.open_port.Given as goal

abbrev pub invariant-loop-seat : goal.invariant-loop-seat
invariant-loop-seat g l = record {
  can_next : (goal.iterator-loop-seat g).can_next l.seat-iterator;
  finite : (goal.iterator-loop-seat g).is_finite l.seat-iterator;
  readers : l.readers.items ≡ map end_of_reader l.yielded;
  rest : l.yielded ++ array_into_iter_items l.seat-iterator ≡ new_seats l.writer-inside.right.table_id g.row.READERS;
}
