-- The link with a number, in a configuration.
use Rattle.std.proofs.Common.{◌≡◌, ◌∙◌, ap, sym, ℕ, ◌<◌, ◌==◌, true, false, List, length, Some}
use Rattle.std.specs.List.{find, slice_get}
use Rattle.std.proofs.lemmas.Bool.{eq-eqb, eqb-true, ltb-true}
use Rattle.std.proofs.lemmas.Option.{cond_some, same_Some}
use Rattle.es_base.specs.declared.place.LinkNo.{LinkNo}
use Rattle.es_base.specs.Config.{has_link_number, link_of}
use Rattle.es_base.specs.Settings.{Settings}
use Rattle.es_base.proofs.Elements.{there}
use Rattle.es_base.proofs.Firsts.{found_at, passes_found}

pub record Named (links : List Settings) (vl : LinkNo) (place : ℕ) : Type 0 where
  pub settings : Settings
  pub there : slice_get links place ≡ Some settings
  pub numbered : settings.vl ≡ vl

number_from : (m n : LinkNo) → (m.0 == n.0) ≡ true → m ≡ n
number_from m n same = let e : m.0 ≡ n.0 = eqb-true m.0 n.0 same in (λ i. record { 0 = e i })

pub named_at : (links : List Settings) (vl : LinkNo) (place : ℕ) → link_of links vl ≡ Some place → Named links vl place
named_at links vl place first =
    let within : place < length links = rw (cond_some _ _ _ first).1 at (ltb-true _ _ (cond_some _ _ _ first).0) in
    let at = there links place within in
    let found : find (has_link_number vl.0) links ≡ Some at.0 = found_at (has_link_number vl.0) links place first ∙ at.1 in
    record {
      settings = at.0;
      there = at.1;
      numbered = number_from at.0.vl vl (passes_found (has_link_number vl.0) links at.0 found);
    }

-- two numbers that name the link at one place are one
same_number : (links : List Settings) (m n : LinkNo) (place : ℕ) → Named links m place → Named links n place → m ≡ n
same_number links m n place one two =
    let same : one.settings ≡ two.settings = same_Some one.settings two.settings (sym one.there ∙ two.there) in
    sym one.numbered ∙ (ap (λ (s : Settings). s.vl) same ∙ two.numbered)

-- a number names this link, or another one
module _ (links : List Settings) (vl : LinkNo) (place : ℕ) (named : link_of links vl ≡ Some place) where
  pub other_place : (number : LinkNo) (at : ℕ) → link_of links number ≡ Some at → (number.0 == vl.0) ≡ false → place ≡ at → ⊥
  other_place number at first_at apart same =
      let one = named_at links number at first_at in
      let two = named_at links vl place named in
      let two_here : Named links vl at = rw same at two in
      let numbers : number ≡ vl = same_number links number vl at one two_here in
      let yes : (number.0 == vl.0) ≡ true = eq-eqb number.0 vl.0 (ap (λ (n : LinkNo). n.0) numbers) in
      let no : true ≡ false = sym yes ∙ apart in cc

  pub this_place : (number : LinkNo) (at : ℕ) → link_of links number ≡ Some at → (number.0 == vl.0) ≡ true → at ≡ place
  this_place number at first_at same =
      let numbers = number_from number vl same in
      same_Some at place (sym first_at ∙ (ap (link_of links) numbers ∙ named))
