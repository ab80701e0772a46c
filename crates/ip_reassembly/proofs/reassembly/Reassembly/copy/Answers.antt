use Rattle.std.proofs.Common.{◌≡◌, ◌∙◌, ap, arith, List, [], ◌∷◌, length, take, get_or, refl}
use Rattle.ip_reassembly.specs.Kept.{Kept}
use Rattle.ip_reassembly.specs.declared.partial.Partial.{Partial}
use Rattle.ip_reassembly.proofs.reassembly.Reassembly.copy.Goals as goal

-- the four of a list of four
four : (xs : List Partial) (a b c d : Partial) → length xs ≡ 4 → a ≡ get_or xs 0 a → b ≡ get_or xs 1 b → c ≡ get_or xs 2 c → d ≡ get_or xs 3 d → a ∷ b ∷ c ∷ d ∷ [] ≡ xs
four [] a b c d long at0 at1 at2 at3 = absurd (omega (arith, long))
four (p ∷ []) a b c d long at0 at1 at2 at3 = absurd (omega (arith, long))
four (p ∷ q ∷ []) a b c d long at0 at1 at2 at3 = absurd (omega (arith, long))
four (p ∷ q ∷ r ∷ []) a b c d long at0 at1 at2 at3 = absurd (omega (arith, long))
four (p ∷ q ∷ r ∷ s ∷ []) a b c d long at0 at1 at2 at3 = rw (at0, at1, at2, at3) refl
four (p ∷ q ∷ r ∷ s ∷ t ∷ rest) a b c d long at0 at1 at2 at3 = absurd (omega (arith, long))

pub returns : goal.returns
returns c =
    let partials = c.self.inside.partials.items in
    let all = four partials c.in_ok-first.first c.in_ok-second.second c.in_ok-third.third c.in_ok-fourth.fourth c.self.invariant.0
    (rw (c.in_ok-first.ensures, ← c.deref.ensures.0) c.index-deref-0.is)
    (rw (c.in_ok-second.ensures, ← c.deref-2.ensures.0) c.index-deref-1.is)
    (rw (c.in_ok-third.ensures, ← c.deref-3.ensures.0) c.index-deref-2.is)
    (rw (c.in_ok-fourth.ensures, ← c.deref-4.ensures.0) c.index-deref-3.is) in
    let kept : List Partial → Kept = λ items. record { limit = c.self.inside.limit; given_up = c.self.inside.given_up; partials = take c.self.inside.standing items } in
    ap kept (c.from.ensures.0 ∙ all) ∙ c.self.view_is
