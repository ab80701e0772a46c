-- Two keys of datagrams that are the same, and two that differ.
use Rattle.std.proofs.Common.{◌≡◌, ◌∙◌, ap, sym, ℕ, ◌==◌, ◌&&◌, ⊎_elim, Bool, true, false, refl}
use Rattle.std.proofs.lemmas.Bool.{cases_Bool, eqb-true, eq-eqb, false≢true}
use Rattle.es_base.specs.declared.fragment.DatagramKey.{DatagramKey}
use Rattle.link_rules.specs.Groups.{is_same_key}

same_parts : (a b c : Bool) → (a && b && c) ≡ true → (a ≡ true) × (b ≡ true) × (c ≡ true)
same_parts true true true e = (refl, refl, refl)
same_parts true true false e = cc
same_parts true false c e = cc
same_parts false b c e = cc

pub same_key : (a b : DatagramKey) → is_same_key a b ≡ true → a ≡ b
same_key a b same =
    let (s, d, i) = same_parts (a.source == b.source) (a.destination == b.destination) (a.ident == b.ident) same in
    let made : ℕ → ℕ → ℕ → DatagramKey = λ x y z. record { source = x; destination = y; ident = z } in
    ap (λ (x : ℕ). made x a.destination a.ident) (eqb-true _ _ s) ∙ ap (λ (y : ℕ). made b.source y a.ident) (eqb-true _ _ d) ∙ ap (λ (z : ℕ). made b.source b.destination z) (eqb-true _ _ i)

pub key_itself : (a : DatagramKey) → is_same_key a a ≡ true
key_itself a = rw (eq-eqb a.source a.source refl, eq-eqb a.destination a.destination refl, eq-eqb a.ident a.ident refl) refl

pub other_way : (a b : DatagramKey) → is_same_key a b ≡ false → is_same_key b a ≡ false
other_way a b other =
    ⊎_elim
    (λ (same : is_same_key b a ≡ true).
    let is = same_key b a same in
    let itself : is_same_key a b ≡ true = rw is (key_itself a) in
    absurd (false≢true (sym other ∙ itself)))
    (λ (differs : is_same_key b a ≡ false). differs)
    (cases_Bool (is_same_key b a))
