use Rattle.std.proofs.Common.{◌≡◌}
use Rattle.std.specs.Arc.{arc_value}
use Rattle.sampling_port.specs.Seats.{new_seats}
use Rattle.sampling_port.specs.declared.rule.SeatView.TheVariants.{Opens}
use Rattle.sampling_port.proofs.open.open_seats.Given as goal

abbrev pub invariant-loop-place : goal.invariant-loop-place
invariant-loop-place g l = record {
  port : l.right.table_id ≡ (arc_value l.table).shared.table_id;
  parted : l.right.me.0 ≡ Opens l.place;
  readers : l.readers.items ≡ new_seats l.right.table_id l.place;
}
