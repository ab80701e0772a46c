use Rattle.std.proofs.Common.{◌∙◌, ap, List, refl}
use Rattle.ip_reassembly.specs.Kept.{Kept}
use Rattle.ip_reassembly.specs.declared.partial.Partial.{Partial}
use Rattle.ip_reassembly.proofs.Four.{first_some}
use Rattle.ip_reassembly.proofs.reassembly.Reassembly.waiting.Goals as goal

pub returns : goal.returns
returns c =
    let all = first_some c.standing-partials.result.now _ c.in_ok-first.first c.in_ok-second.second c.in_ok-third.third c.in_ok-fourth.fourth refl c.standing-partials.ensures.few
    c.in_ok-first.ensures c.in_ok-second.ensures c.in_ok-third.ensures c.in_ok-fourth.ensures
    in
    let kept : List Partial → Kept = λ partials. record { limit = c.args.self.now.limit; given_up = c.args.self.now.given_up; partials = partials } in
    rw (c.from.ensures.0, c.limit.ensures, c.given_up.ensures) (ap kept (all ∙ c.standing-partials.ensures.value))
