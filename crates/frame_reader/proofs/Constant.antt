-- Four octets, compared as one number.
use Rattle.std.proofs.Common.{◌≡◌, ◌∙◌, ℕ, ◌+◌, ◌*◌, ◌<◌, ◌≤◌, ◌==◌, Bool, true, false, ◌&&◌, List, [], ◌∷◌, length, get_or, nat_eq, refl, sym, arith}
use Rattle.std.specs.List.{starts_with}
use Rattle.std.proofs.lemmas.Bool.{eqb-true, eq-eqb, false≢true}
use Rattle.es_base.specs.Octets.{u32_at}

-- two numbers of four octets are equal only if their octets are
same_octets : (p q r s a b c d : ℕ) → q < 256 → r < 256 → s < 256 → b < 256 → c < 256 → d < 256
    → p * 16777216 + (q * 65536 + (r * 256 + (s * 1 + 0))) ≡ a * 16777216 + (b * 65536 + (c * 256 + (d * 1 + 0)))
    → (a ≡ p) × (b ≡ q) × (c ≡ r) × (d ≡ s)
same_octets p q r s a b c d q8 r8 s8 b8 c8 d8 e = (omega arith, omega arith, omega arith, omega arith)

same_word : (p q r s a b c d : ℕ) → q < 256 → r < 256 → s < 256 → b < 256 → c < 256 → d < 256 → (word one two three four : Bool)
    → (p * 16777216 + (q * 65536 + (r * 256 + (s * 1 + 0))) == a * 16777216 + (b * 65536 + (c * 256 + (d * 1 + 0)))) ≡ word
    → (a == p) ≡ one → (b == q) ≡ two → (c == r) ≡ three → (d == s) ≡ four → (one && (two && (three && (four && true)))) ≡ word
same_word p q r s a b c d q8 r8 s8 b8 c8 d8 true one two three four e f g h i =
    let same = same_octets p q r s a b c d q8 r8 s8 b8 c8 d8 (eqb-true _ _ e) in
    rw (sym f ∙ eq-eqb _ _ same.0, sym g ∙ eq-eqb _ _ same.1, sym h ∙ eq-eqb _ _ same.2, sym i ∙ eq-eqb _ _ same.3) refl
same_word p q r s a b c d q8 r8 s8 b8 c8 d8 false false two three four e f g h i = refl
same_word p q r s a b c d q8 r8 s8 b8 c8 d8 false true false three four e f g h i = refl
same_word p q r s a b c d q8 r8 s8 b8 c8 d8 false true true false four e f g h i = refl
same_word p q r s a b c d q8 r8 s8 b8 c8 d8 false true true true false e f g h i = refl
same_word p q r s a b c d q8 r8 s8 b8 c8 d8 false true true true true e f g h i =
    let one = eqb-true a p f in
    let two = eqb-true b q g in
    let three = eqb-true c r h in
    let four = eqb-true d s i in
    absurd (false≢true (sym e ∙ eq-eqb _ _ (rw (one, two, three, four) refl)))

pub by_word : (octets constant : List ℕ) → length constant ≡ 4 → 4 ≤ length octets → ((i : ℕ) → get_or octets i 0 < 256) → ((i : ℕ) → get_or constant i 0 < 256)
    → starts_with nat_eq octets constant ≡ (u32_at 0 octets == u32_at 0 constant)
unfolding u32_at
by_word [] constant four long small less = absurd (omega arith)
by_word (p ∷ []) constant four long small less = absurd (omega arith)
by_word (p ∷ q ∷ []) constant four long small less = absurd (omega arith)
by_word (p ∷ q ∷ r ∷ []) constant four long small less = absurd (omega arith)
by_word (p ∷ q ∷ r ∷ s ∷ rest) [] four long small less = absurd (omega arith)
by_word (p ∷ q ∷ r ∷ s ∷ rest) (a ∷ []) four long small less = absurd (omega arith)
by_word (p ∷ q ∷ r ∷ s ∷ rest) (a ∷ b ∷ []) four long small less = absurd (omega arith)
by_word (p ∷ q ∷ r ∷ s ∷ rest) (a ∷ b ∷ c ∷ []) four long small less = absurd (omega arith)
by_word (p ∷ q ∷ r ∷ s ∷ rest) (a ∷ b ∷ c ∷ d ∷ e ∷ more) four long small less = absurd (omega arith)
by_word (p ∷ q ∷ r ∷ s ∷ rest) (a ∷ b ∷ c ∷ d ∷ []) four long small less =
    same_word p q r s a b c d (small 1) (small 2) (small 3) (less 1) (less 2) (less 3) _ _ _ _ _ refl refl refl refl refl
