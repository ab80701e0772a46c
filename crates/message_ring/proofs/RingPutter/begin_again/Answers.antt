use Rattle.std.proofs.Common.{◌≡◌, ◌<◌, ◌∙◌, ℕ, length, subst, sym}
use Rattle.message_ring.specs.Queue.{Known}
use Rattle.message_ring.proofs.Ends.{start_on, starts_keep}
use Rattle.message_ring.proofs.RingPutter.begin_again.Goals as goal

pub start-requires-clause-seat : goal.start-requires-clause-seat
start-requires-clause-seat c =
    let keeps = c.self.invariant.1 in
    let empty = subst (λ (k : Known). length k.put ≡ length k.taken) (sym c.self.view_is) c.requires in
    let within = start_on _ _ _ _ keeps.keeps.within c.slot_after-start.ensures in
    record {
      seat = keeps.seat;
      outside = keeps.keeps.outside;
      none = empty;
      within = subst (λ (d : ℕ). c.slot_after-start.result < d) (sym keeps.keeps.depth_is) within;
    }

pub invariant_of-self : goal.invariant_of-self
invariant_of-self c =
    (c.start.ensures.table ∙ c.self.invariant.0, starts_keep _ _ _ _ _ _ _ _ _ _ _ c.self.invariant.1 c.start.ensures.started c.slot_after-start.ensures c.slot_after-self-inside.ensures)
