use Rattle.std.proofs.Common.{rules}
use Rattle.message_ring.proofs.Turns.{start_goes_at}
use Rattle.message_ring.proofs.steps.Slots.start.Goals as goal

pub store-requires : goal.store-requires
store-requires c = let may = c.requires.seat in (search rules, search rules, start_goes_at _ _ _ _ _ may.seat may.outside may.none may.within)
