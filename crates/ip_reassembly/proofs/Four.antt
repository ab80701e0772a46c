-- As many of four partial datagrams as there are in a list of which they are the first.
use Rattle.std.proofs.Common.{◌≡◌, ℕ, ◌≤◌, List, [], ◌∷◌, length, take, refl, arith}
use Rattle.ip_reassembly.specs.Waiting.{IsAt}
use Rattle.ip_reassembly.specs.declared.partial.Partial.{Partial}

first_of_four : (xs : List Partial) (a b c d : Partial) → length xs ≤ 4 → IsAt xs 0 a → IsAt xs 1 b → IsAt xs 2 c → IsAt xs 3 d → take (length xs) (a ∷ b ∷ c ∷ d ∷ []) ≡ xs
first_of_four [] a b c d few at0 at1 at2 at3 = refl
first_of_four (p ∷ []) a b c d few at0 at1 at2 at3 = rw (at0 p refl) refl
first_of_four (p ∷ q ∷ []) a b c d few at0 at1 at2 at3 = rw (at0 p refl, at1 q refl) refl
first_of_four (p ∷ q ∷ r ∷ []) a b c d few at0 at1 at2 at3 = rw (at0 p refl, at1 q refl, at2 r refl) refl
first_of_four (p ∷ q ∷ r ∷ s ∷ []) a b c d few at0 at1 at2 at3 = rw (at0 p refl, at1 q refl, at2 r refl, at3 s refl) refl
first_of_four (p ∷ q ∷ r ∷ s ∷ t ∷ rest) a b c d few at0 at1 at2 at3 = absurd (omega (arith, few))

pub first_some : (xs : List Partial) (n : ℕ) (a b c d : Partial) → length xs ≡ n → n ≤ 4 → IsAt xs 0 a → IsAt xs 1 b → IsAt xs 2 c → IsAt xs 3 d → take n (a ∷ b ∷ c ∷ d ∷ []) ≡ xs
first_some xs n a b c d long few at0 at1 at2 at3 = rw (← long) (first_of_four xs a b c d (omega (arith, long, few)) at0 at1 at2 at3)
