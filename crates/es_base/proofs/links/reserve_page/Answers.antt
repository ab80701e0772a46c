use Rattle.std.proofs.Common.{rules, arith, ◌≡◌, ◌+◌, ◌-◌, ◌++◌, max, replicate, length}
use Rattle.std.specs.Vec.{vec_len}
use Rattle.std.proofs.lemmas.List.{take_all}
use Rattle.es_base.specs.Places.{page_of}
use Rattle.es_base.proofs.Pages.{at_most, page_made}
use Rattle.es_base.proofs.links.reserve_page.Goals as goal

pub overflow_cast-made : goal.overflow_cast-made
overflow_cast-made c =
    let places = c.args.places.now.items in
    let few = at_most places c.requires.pages in
    let end : c.max-end.result ≡ max (length places) 256 = search rules in
    omega arith

pub returns-clause-ok : goal.returns-clause-ok
returns-clause-ok c =
    let places = c.args.places.now.items in
    let none : page_of places c.args.upper ≡ 0 = search rules in
    let end : c.max-end.result ≡ max (length places) 256 = search rules in
    let same : c.if-is_empty.places.items ≡ places = search rules in
    let long : vec_len c.if-is_empty.places ≡ length places = search rules in
    let filled : c.resize.new.self.items ≡ places ++ replicate (c.max-end.result + 256 - length places) 0 =
    rw (same, long, take_all (c.max-end.result + 256) places (omega arith)) at c.in_ok-resize.ensures.items in
    rw filled
    (page_made places c.args.upper c.max-end.result (c.max-end.result + 256 - length places) c.requires.pages (search rules) none end (omega arith))
