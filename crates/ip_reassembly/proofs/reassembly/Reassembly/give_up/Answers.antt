use Rattle.std.proofs.Common.{ap, length, arith}
use Rattle.ip_reassembly.proofs.Lists.{refill_whole}
use Rattle.ip_reassembly.proofs.Stands.{stand_remove}
use Rattle.ip_reassembly.proofs.reassembly.Reassembly.give_up.Goals as goal

pub returns-clause-stand : goal.returns-clause-stand
returns-clause-stand c =
    let lent = ap length c.deref_mut.ensures.value in
    let same = refill_whole (length c.self.inside.partials.items) c.self.inside.partials.items c.move_to_end.new.partials (omega (arith, lent)) in
    rw (← c.self.view_is, same, c.move_to_end.ensures.others, c.deref_mut.ensures.value) (λ groups stand. stand_remove _ groups _ stand)
