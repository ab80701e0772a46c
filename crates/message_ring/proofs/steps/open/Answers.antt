use Rattle.std.proofs.Common.{rules, ap}
use Rattle.message_ring.specs.Rule.{view_at_first}
use Rattle.message_ring.specs.Plays.{QueueSeat}
use Rattle.message_ring.proofs.Opens.{opens_at, part_at}
use Rattle.message_ring.proofs.steps.open.Goals as goal

pub new-requires : goal.new-requires
new-requires c = opens_at c.args.depth c.args.max c.args.slots.items c.requires.0 c.requires.1 c.requires.2

pub split_seat-putter-requires : goal.split_seat-putter-requires
split_seat-putter-requires c = let first = view_at_first c.args.depth c.args.max in
    (search rules, search rules, part_at _ _ first first (ap (λ (m : QueueSeat). m.0) c.in-Ok.ensures.ok.4))
