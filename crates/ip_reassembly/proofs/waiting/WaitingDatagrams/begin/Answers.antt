use Rattle.std.proofs.Common.{◌≡◌, ◌∙◌, ap, List, length, take, arith}
use Rattle.std.proofs.lemmas.Grind.{common_steps}
use Rattle.ip_reassembly.specs.Kept.{Kept}
use Rattle.ip_reassembly.specs.declared.partial.Partial.{Partial}
use Rattle.ip_reassembly.proofs.Four.{first_some}
use Rattle.ip_reassembly.proofs.waiting.WaitingDatagrams.begin.Goals as goal

pub returns : goal.returns
returns c =
    let s = c.self.inside in
    let items = take s.standing s.partials.items in
    let long : length items ≡ s.standing = grind (arith, common_steps) in
    let all = first_some items s.standing c.in_ok-first.first c.in_ok-second.second c.in_ok-third.third c.in_ok-fourth.fourth long c.self.invariant.1
    (rw c.deref.ensures.0 at c.in_ok-first.ensures)
    (rw c.deref.ensures.0 at c.in_ok-second.ensures)
    (rw c.deref.ensures.0 at c.in_ok-third.ensures)
    (rw c.deref.ensures.0 at c.in_ok-fourth.ensures)
    in
    let kept : List Partial → Kept = λ partials. record { limit = s.limit; given_up = s.given_up; partials = partials } in
    c.of.ensures ∙ rw c.from-four.ensures.0 (ap kept all) ∙ c.self.view_is
