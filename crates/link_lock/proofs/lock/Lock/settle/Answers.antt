use Rattle.std.proofs.Common.{rules, sym, ap, ◌∙◌}
use Rattle.link_lock.specs.declared.rule.Whose.TheVariants.{One}
use Rattle.link_lock.proofs.Settles.{settled}
use Rattle.link_lock.proofs.Steps.{joins}
use Rattle.link_lock.proofs.lock.Lock.settle.Goals as goal

pub join_seat-requires : goal.join_seat-requires
join_seat-requires g c =
    let first = c.first.invariant.0 ∙ ap One (ap (λ k. k.user) c.first.view_is ∙ c.requires.users.0) in
    let second = c.second.invariant.0 ∙ ap One (ap (λ k. k.user) c.second.view_is ∙ c.requires.users.1) in (
      ap (λ k. k.lock) c.first.view_is ∙ (c.requires.lock.0 ∙ sym c.self.view_is),
      ap (λ k. k.lock) c.second.view_is ∙ (c.requires.lock.1 ∙ sym c.self.view_is),
      c.second.invariant.2,
      search rules,
      joins _ _ g.S.Recorded.goes_on _ g.S.Recorded.nothing _ _ _ _ first second c.first.invariant.1 c.second.invariant.1,
    )

pub returns-clause-fixed : goal.returns-clause-fixed
returns-clause-fixed g c =
    (settled _ _ g.S.Recorded.goes_on _ _ _ _ _ c.take-value.ensures.value _ c.first.inside.right.me.0 c.second.inside.right.me.0 (ap (λ m. m.0) c.join_seat.ensures.2) c.close_with-closed.ensures.values.2 _ _ _ _ _ _ c.first.view_is c.second.view_is c.requires.users.0 c.requires.users.1).0

pub returns-clause-agrees : goal.returns-clause-agrees
returns-clause-agrees g c =
    (settled _ _ g.S.Recorded.goes_on _ _ _ _ _ c.take-value.ensures.value _ c.first.inside.right.me.0 c.second.inside.right.me.0 (ap (λ m. m.0) c.join_seat.ensures.2) c.close_with-closed.ensures.values.2 _ _ _ _ _ _ c.first.view_is c.second.view_is c.requires.users.0 c.requires.users.1).1
