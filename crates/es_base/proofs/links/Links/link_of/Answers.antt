use Rattle.std.proofs.Common.{rules, arith, ◌≡◌, ◌∙◌, ap, ◌/◌, ◌-◌, ◌<◌, ◌≤◌, length, get_or, sym, true, false, slice_get}
use Rattle.std.proofs.lemmas.Grind.{get_or_default_zero}
use Rattle.es_base.specs.Places.{page_of, entry_of, is_numbered}
use Rattle.es_base.proofs.Places.{no_page, found_there, not_there, numbered_within}
use Rattle.es_base.proofs.links.Links.link_of.Goals as goal
use Rattle.es_base.proofs.links.Links.link_of.Goals.{After-is_numbered}

pub returns-in_err-page-clause-value : goal.returns-in_err-page-clause-value
returns-in_err-page-clause-value c =
    let past : length c.self.inside.places.items ≤ c.args.vl.0 / 256 = search rules in
    rw (← c.self.view_is) (c.from_residual.ensures ∙ sym (no_page c.self.inside.places.items c.self.inside.links.items c.args.vl.0 c.self.invariant past))

page_is : (c : After-is_numbered) → c.in_ok-page.field-0.now ≡ page_of c.self.inside.places.items (c.args.vl.0 / 256)
page_is c = search rules

place_is : (c : After-is_numbered) → c.from-place.result ≡ get_or c.self.inside.places.items (entry_of c.in_ok-page.field-0.now c.args.vl.0) 0
place_is c =
    let places = c.self.inside.places.items in
    let some : c.args.vl.0 / 256 < length places = search rules in
    let page : c.in_ok-page.field-0.now ≤ length places / 256 - 1 = rw (page_is c) (c.self.invariant.pages.within (c.args.vl.0 / 256) (search rules)) in
    let within : c.entry_of.result < length places = omega (arith, c.self.invariant.pages.whole) in
    c.from-place.ensures ∙ c.index.ensures ∙ get_or_default_zero places c.entry_of.result c.index.result.now within ∙ ap (λ entry. get_or places entry 0) c.entry_of.ensures

pub returns-then-is_numbered-clause-value : goal.returns-then-is_numbered-clause-value
returns-then-is_numbered-clause-value c =
    let looked = (goal.at.returns-then-is_numbered-clause-value c).After-is_numbered in
    let links = c.self.inside.links.items in
    let is : is_numbered (slice_get links c.from-place.result) c.args.vl.0 ≡ true = search rules in
    rw (← c.self.view_is)
    (sym (found_there c.self.inside.places.items links c.args.vl.0 c.in_ok-page.field-0.now c.from-place.result c.self.invariant (page_is looked) (place_is looked) is))

pub returns-then-is_numbered-clause-bound : goal.returns-then-is_numbered-clause-bound
returns-then-is_numbered-clause-bound c =
    let links = c.self.inside.links.items in
    let is : is_numbered (slice_get links c.from-place.result) c.args.vl.0 ≡ true = search rules in
    rw (← c.self.view_is) (numbered_within links c.from-place.result c.args.vl.0 is)

pub returns-else-is_numbered-clause-value : goal.returns-else-is_numbered-clause-value
returns-else-is_numbered-clause-value c =
    let looked = (goal.at.returns-else-is_numbered-clause-value c).After-is_numbered in
    let links = c.self.inside.links.items in
    let other : is_numbered (slice_get links c.from-place.result) c.args.vl.0 ≡ false = search rules in
    rw (← c.self.view_is)
    (sym (not_there c.self.inside.places.items links c.args.vl.0 c.in_ok-page.field-0.now c.from-place.result c.self.invariant (page_is looked) (place_is looked) other))
