use Rattle.std.proofs.Common.{◌≡◌, ◌≤◌, ◌∙◌, ◌+◌, ◌-◌, ◌∷◌, ◌++◌, [], ap, arith, length, length-append, sym, take, ℕ, List}
use Rattle.std.specs.Prelude.{slice_index_or}
use Rattle.std.specs.List.{sum_by}
use Rattle.std.proofs.lemmas.List.{length-take-le, take_more}
use Rattle.std.proofs.lemmas.List.Elements.{All-push}
use Rattle.std.proofs.lemmas.List.Sums.{sum_by_push}
use Rattle.es_base.specs.declared.place.Net.TheVariants.{A, B}
use Rattle.live_system.specs.Groups.{IsGroup}
use Rattle.live_system.proofs.Openings.{idle_more, know_more, links_more, passes_more, sum_take}
use Rattle.live_system.proofs.opened.open_groups.Goals as goal

pub groups-preserved : goal.groups-preserved
groups-preserved g c =
    let links = c.args.links.now in
    let sizes = c.args.sizes.now in
    let at = c.groups.group in
    let first = c.groups.first in
    let size = slice_index_or sizes at 0 in
    let was = c.groups.invariant in
    let one = c.in_ok-lock.ensures in
    let longer : take (at + 1) sizes ≡ take at sizes ++ size ∷ [] = take_more sizes at 0 c.groups-test.true in
    let next : first + size ≡ sum_by (λ n. n) (take (at + 1) sizes) = ap (λ (n : ℕ). n + size) was.first ∙ (sym (sum_by_push (λ n. n) (take at sizes) size) ∙ ap (λ (ns : List ℕ). sum_by (λ n. n) ns) (sym longer)) in
    let within : first + size ≤ length links = omega (arith, next, sum_take sizes (at + 1), c.requires.all) in
    let k : first + size - first ≡ size = omega arith in
    let low = c.groups-test.true in
    let many : length c.groups.opened.locks.items ≡ length (take at sizes) = was.locks ∙ sym (length-take-le at sizes (omega (arith, low))) in
    rw (c.in_ok-push.ensures.items, c.in_ok-push-2.ensures.items, c.in_ok-push-3.ensures.items, longer) (record {
      first = next ∙ ap (λ (ns : List ℕ). sum_by (λ n. n) ns) longer;
      locks = length-append c.groups.opened.locks.items _ ∙ ap (λ (n : ℕ). n + 1) was.locks;
      a = (
        passes_more links first size (first + size - first) k within A (take at sizes) c.groups.opened.locks.items c.in_ok-lock.field-0.lock c.groups.opened.a.items c.in_ok-lock.field-0.a many was.a.0 one.a.0,
        idle_more c.groups.opened.a.items c.in_ok-lock.field-0.a was.a.1 one.a.1,
        All-push IsGroup c.groups.opened.a.items c.in_ok-lock.field-0.a was.a.2 one.a.2,
      );
      b = (
        passes_more links first size (first + size - first) k within B (take at sizes) c.groups.opened.locks.items c.in_ok-lock.field-0.lock c.groups.opened.b.items c.in_ok-lock.field-0.b many was.b.0 one.b.0,
        idle_more c.groups.opened.b.items c.in_ok-lock.field-0.b was.b.1 one.b.1,
        All-push IsGroup c.groups.opened.b.items c.in_ok-lock.field-0.b was.b.2 one.b.2,
      );
      links = (
        was.links.0 ++ one.links.0,
        links_more links first size (first + size - first) k within (g.R.Readers.count c.args.readers.now) was.links.0 one.links.0 _ one.links.1 _ one.links.2 was.links.1 one.links.3,
        know_more c.groups.opened.a.items c.in_ok-lock.field-0.a was.links.0 one.links.0 was.links.2 one.links.4,
        know_more c.groups.opened.b.items c.in_ok-lock.field-0.b was.links.0 one.links.0 was.links.3 one.links.5,
      );
    })
