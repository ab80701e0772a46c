use Rattle.std.proofs.Common.{◌≡◌, ◌∙◌, rules, true}
use mathlib.Core.Option.{none}
use Rattle.atomic_table.specs.Table.{step}
use Rattle.link_lock.proofs.Visits.{may_give, ready_after, visited}
use Rattle.link_lock.proofs.lock.Lock.try_visit.Goals as goal

pub give_back-requires-clause-may : goal.give_back-requires-clause-may
give_back-requires-clause-may g c =
    let has : c.try_take.result ≡ true = search rules in
    may_give _ _ g.S.Recorded.goes_on _ c.pass.inside.right.table_id c.pass.inside.user _ _ _ c.pass.invariant (c.try_take.ensures.took has) c.work_on-answer.ensures.worked _ c.pass.view_is
    (λ lists found left finds did. c.requires.keeps lists found left c.work_on-answer.result finds did)

pub invariant_of-pass-2 : goal.invariant_of-pass-2
invariant_of-pass-2 g c =
    let has : c.try_take.result ≡ true = search rules in
    ready_after _ _ g.S.Recorded.goes_on _ c.pass.inside.right.table_id c.pass.inside.user _ _ _ c.pass.invariant (c.try_take.ensures.took has) c.work_on-answer.ensures.worked _ c.pass.view_is
    (step 1 0 0 0 none) _ c.give_back.ensures.gave

pub returns-clause-visited : goal.returns-clause-visited
returns-clause-visited g c =
    let has : c.try_take.result ≡ true = search rules in
    visited _ _ g.S.Recorded.goes_on _ c.pass.inside.right.table_id c.pass.inside.user _ _ _ c.pass.invariant (c.try_take.ensures.took has) c.work_on-answer.ensures.worked _ c.pass.view_is
    (step 1 0 0 0 none) _ c.give_back.ensures.gave _ (c.give_back.ensures.id.0 ∙ (c.work_on-answer.ensures.id.0 ∙ c.try_take.ensures.id.0))
