use Rattle.std.proofs.Common.{◌∷◌, ◌++◌, [], ◌<◌, ◌∙◌, length, subst, sym}
use Rattle.std.proofs.lemmas.Option.{same_Some}
use Rattle.message_ring.specs.declared.rule.QueuedMessage.{QueuedMessage as Message}
use Rattle.message_ring.specs.Queue.{BeginsWith}
use Rattle.message_ring.specs.Queue.{Known}
use Rattle.message_ring.specs.Plays.{QueueSeat, taker_in}
use Rattle.message_ring.proofs.Ends.{take_keeps}
use Rattle.message_ring.proofs.Lists.{next_of}
use Rattle.message_ring.proofs.RingTaker.take_next.Goals as goal

pub invariant_of-self : goal.invariant_of-self
invariant_of-self c =
    let t = taker_in c.self.inside.right.me.0 in
    let more = subst (λ (k : Known). length k.taken < length k.put) (sym c.self.view_is) c.requires.more in
    let next = next_of t.taken t.put c.self.invariant.1.keeps.begins more in
    let begins = subst (λ (m : Message). BeginsWith t.put (t.taken ++ m ∷ [])) (same_Some _ _ (sym next.1 ∙ c.take-taken.ensures.next)) next.2 in
    (c.take-taken.ensures.table ∙ c.self.invariant.0, take_keeps _ _ _ _ _ _ _ _ _ _ c.self.invariant.1 c.take-taken.ensures.taken more begins c.slot_after-self-inside.ensures)

pub returns-clause-begins : goal.returns-clause-begins
returns-clause-begins c =
    let t = taker_in c.self.inside.right.me.0 in
    let more = subst (λ (k : Known). length k.taken < length k.put) (sym c.self.view_is) c.requires.more in
    let next = next_of t.taken t.put c.self.invariant.1.keeps.begins more in
    let begins = subst (λ (m : Message). BeginsWith t.put (t.taken ++ m ∷ [])) (same_Some _ _ (sym next.1 ∙ c.take-taken.ensures.next)) next.2 in
    subst (λ (m : QueueSeat). BeginsWith (taker_in m.0).put (taker_in m.0).taken) (sym c.take-taken.ensures.taken) begins
