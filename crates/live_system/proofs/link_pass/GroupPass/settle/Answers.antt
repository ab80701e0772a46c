use Rattle.std.proofs.Common.{◌≡◌, ◌∙◌, ap, arith, length, map, sym, List}
use Rattle.std.proofs.lemmas.List.{length-map}
use Rattle.std.proofs.lemmas.Option.{same_Some}
use Rattle.es_base.specs.declared.place.Net.TheVariants.{A, B}
use Rattle.network_calls.specs.Calls.{user_of}
use Rattle.live_system.specs.Calls.{LiveLink, as_opened}
use Rattle.live_system.specs.Groups.{ids_of}
use Rattle.live_system.specs.Pass.{KnownLink}
use Rattle.live_system.proofs.Ending.{as_many_links}
use Rattle.live_system.proofs.GroupEnds.{counted_all, its_lock, let_go_all}
use Rattle.live_system.proofs.Groups.{known_many}
use Rattle.live_system.proofs.link_pass.GroupPass.settle.Goals as goal

pub settle-requires-clause-lock : goal.settle-requires-clause-lock
settle-requires-clause-lock c =
    let own = rw (← c.a.view_is, ← c.b.view_is) at c.requires.own in
    ((its_lock c.a.inside.net A c.a.inside.pass c.a.inside.counts.items c.args.lock own.0 c.a.invariant.0.some own.1).0, (its_lock c.b.inside.net B c.b.inside.pass c.b.inside.counts.items c.args.lock own.0 c.b.invariant.0.some own.2).0)

pub settle-requires-clause-users : goal.settle-requires-clause-users
settle-requires-clause-users c =
    let own = rw (← c.a.view_is, ← c.b.view_is) at c.requires.own in (
      c.a.invariant.0.user ∙ ap user_of (its_lock c.a.inside.net A c.a.inside.pass c.a.inside.counts.items c.args.lock own.0 c.a.invariant.0.some own.1).1,
      c.b.invariant.0.user ∙ ap user_of (its_lock c.b.inside.net B c.b.inside.pass c.b.inside.counts.items c.args.lock own.0 c.b.invariant.0.some own.2).1,
    )

pub add_reversed-requires : goal.add_reversed-requires
add_reversed-requires c =
    let size : length c.args.a ≡ length c.a.inside.counts.items = ap (λ (links : List KnownLink). length links) (sym c.a.view_is) ∙ known_many c.a.inside.net c.a.inside.pass 0 c.a.inside.counts.items in
    let left : map as_opened c.settle.result ≡ c.a.invariant.0.links = same_Some (map as_opened c.settle.result) c.a.invariant.0.links (c.settle.ensures.fixed ∙ c.a.invariant.0.known) in
    let many : length c.left.inside.links.items ≡ length c.a.inside.counts.items =
    ap (λ (links : List LiveLink). length links) c.left.view_is ∙ (sym (length-map c.settle.result as_opened) ∙ (ap (λ (links : List LiveLink). length links) left ∙ sym c.a.invariant.0.as_many)) in
    omega (arith, c.requires.room, size, many)

pub add_reversed-requires-2 : goal.add_reversed-requires-2
add_reversed-requires-2 c =
    let size : length c.args.a ≡ length c.a.inside.counts.items = ap (λ (links : List KnownLink). length links) (sym c.a.view_is) ∙ known_many c.a.inside.net c.a.inside.pass 0 c.a.inside.counts.items in
    omega (arith, c.requires.room_a, size)

pub add_reversed-requires-3 : goal.add_reversed-requires-3
add_reversed-requires-3 c =
    let size : length c.args.b ≡ length c.b.inside.counts.items = ap (λ (links : List KnownLink). length links) (sym c.b.view_is) ∙ known_many c.b.inside.net c.b.inside.pass 0 c.b.inside.counts.items in
    omega (arith, c.requires.room_b, size)

pub returns-clause-links : goal.returns-clause-links
returns-clause-links c =
    let own = rw (← c.a.view_is, ← c.b.view_is) at c.requires.own in
    let a = c.a.inside in
    let b = c.b.inside in
    let left : map as_opened c.settle.result ≡ c.a.invariant.0.links = same_Some (map as_opened c.settle.result) c.a.invariant.0.links (c.settle.ensures.fixed ∙ c.a.invariant.0.known) in
    let many_a : length a.counts.items ≡ length c.settle.result = c.a.invariant.0.as_many ∙ (ap (λ (links : List LiveLink). length links) (sym left) ∙ length-map c.settle.result as_opened) in
    let as_a = (as_many_links A (ids_of c.args.lock 0 (length own.0)) own.0 _ own.1).0 in
    let as_b = (as_many_links B (ids_of c.args.lock 0 (length own.0)) own.0 _ own.2).0 in
    let many_b : length b.counts.items ≡ length c.settle.result = omega (arith, many_a, as_a, as_b, known_many a.net a.pass 0 a.counts.items, known_many b.net b.pass 0 b.counts.items) in (
      c.settle.result,
      rw c.left.view_is at c.add_reversed.ensures.added,
      rw (← c.a.view_is, ← c.b.view_is) (let_go_all a.net b.net a.pass b.pass a.counts.items b.counts.items c.settle.result c.settle.ensures.fixed c.settle.ensures.agrees many_a many_b),
    )

pub returns-clause-a : goal.returns-clause-a
returns-clause-a c =
    let own = rw (← c.a.view_is, ← c.b.view_is) at c.requires.own in
    let a = c.a.inside in
    let net = (its_lock a.net A a.pass a.counts.items c.args.lock own.0 c.a.invariant.0.some own.1).1 in
    (a.counts.items, c.add_reversed-2.ensures.added, rw (← c.a.view_is) (counted_all a.net A a.pass a.counts.items net c.a.invariant.0.counted))

pub returns-clause-b : goal.returns-clause-b
returns-clause-b c =
    let own = rw (← c.a.view_is, ← c.b.view_is) at c.requires.own in
    let b = c.b.inside in
    let net = (its_lock b.net B b.pass b.counts.items c.args.lock own.0 c.b.invariant.0.some own.2).1 in
    (b.counts.items, c.add_reversed-3.ensures.added, rw (← c.b.view_is) (counted_all b.net B b.pass b.counts.items net c.b.invariant.0.counted))
