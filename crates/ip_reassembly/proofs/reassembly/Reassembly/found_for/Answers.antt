use Rattle.std.proofs.Common.{◌∙◌, sym, ap}
use Rattle.ip_reassembly.specs.Kept.{Kept}
use Rattle.ip_reassembly.proofs.Stands.{stand_at, found_over, found_joins}
use Rattle.ip_reassembly.proofs.reassembly.Reassembly.found_for.Goals as goal

pub returns-then-is_over-clause-group : goal.returns-then-is_over-clause-group
returns-then-is_over-clause-group c = λ groups stand.
    let limit = ap (λ (k : Kept). k.limit) c.self.view_is in
    let (g, at, is) = stand_at _ groups _ _ stand c.partial_at.ensures in
    found_over _ groups _ _ _ g (sym (c.place_of.ensures.group groups stand) ∙ c.in_ok-place.was) at (rw limit at (sym (c.is_over.ensures g is) ∙ c.if-is_over.true))

pub returns-else-is_over-clause-group : goal.returns-else-is_over-clause-group
returns-else-is_over-clause-group c = λ groups stand.
    let limit = ap (λ (k : Kept). k.limit) c.self.view_is in
    let (g, at, is) = stand_at _ groups _ _ stand c.partial_at.ensures in
    (g, found_joins _ groups _ _ _ g (sym (c.place_of.ensures.group groups stand) ∙ c.in_ok-place.was) at (rw limit at (sym (c.is_over.ensures g is) ∙ c.if-is_over.false)), at)
