-- The frames of the example come to its link.
use Rattle.std.proofs.Common.{◌≡◌, ◌∙◌, ap, sym, refl, ℕ, List, Some, Ok}
use Rattle.std.proofs.lemmas.Option.{same_Some}
use Rattle.es_base.specs.Addressing as addressing
use Rattle.es_base.specs.Addressing.{ComesToPlace, addressed_link, addressee_of}
use Rattle.es_base.specs.Config.{Configuration, link_of}
use Rattle.es_base.specs.Octets as words
use Rattle.delivery_example.specs.Example as example
use Rattle.delivery_example.specs.Example.{configuration, first_on_a, first_on_b, link_with_nav, second_on_b}

-- octets that come to the first link of this configuration
pub record ComeToFirst (octets : List ℕ) : Type 0 where
  pub named : addressed_link configuration octets ≡ Ok link_with_nav
  pub placed : link_of configuration.links (addressee_of octets) ≡ Some 0
  pub number : addressee_of octets ≡ record { 0 = 17 }

pub a_comes : ComeToFirst first_on_a
unfolding example.configuration example.first_on_a words.u16_at addressing.addressed_link
a_comes = record { named = refl; placed = refl; number = refl }

pub first_of_b_comes : ComeToFirst first_on_b
unfolding example.configuration example.first_on_b words.u16_at addressing.addressed_link
first_of_b_comes = record { named = refl; placed = refl; number = refl }

pub second_of_b_comes : ComeToFirst second_on_b
unfolding example.configuration example.second_on_b words.u16_at addressing.addressed_link
second_of_b_comes = record { named = refl; placed = refl; number = refl }

-- the place of the link to which such octets come
pub first_place : (c : Configuration) (octets : List ℕ) (at : ℕ) → c ≡ configuration → ComeToFirst octets → ComesToPlace c octets at → at ≡ 0
first_place c octets at is comes there =
    same_Some at 0 (sym there.first ∙ ap (λ (c : Configuration). link_of c.links (addressee_of octets)) is ∙ comes.placed)
