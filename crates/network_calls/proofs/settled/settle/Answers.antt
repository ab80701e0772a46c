use Rattle.std.proofs.Common.{◌≡◌, [], ◌∷◌, ap, arith, length, map, rules, sym}
use Rattle.std.proofs.lemmas.List.{map-append}
use Rattle.es_base.specs.declared.place.Net.TheVariants.{A}
use Rattle.network_calls.proofs.Looking.{is_counted}
use Rattle.network_calls.proofs.Settling.{begins, ends, next, one_more, some_left}
use Rattle.network_calls.proofs.settled.settle.Goals as goal
use Rattle.network_calls.proofs.settled.settle.Goals.{in_default-2-via-in-Some+in_default, in_default-2-via-in_default}

pub locks-init : goal.locks-init
locks-init g c =
    let own = rw (← c.a.view_is, ← c.b.view_is) at c.requires.own in
    let net_a : c.a.inside.net ≡ A = rw (← c.a.view_is) at c.requires.nets.0 in
    let no_links = c.a.invariant.0 in
    let none_a = c.a.invariant.1 in
    let none_b = c.b.invariant.1 in
    record {
      so_far = rw (← c.a.view_is, ← c.b.view_is)
          (begins g.P.PassOnLink.keeping c.args._settings.now c.a.inside.links.items c.b.inside.links.items (map g.P.PassOnLink.lock_id c.args.locks.items) c.a.inside.settled.items c.a.inside.counts.items c.b.inside.counts.items own.0 own.1 no_links
          none_a none_b);
      room = let enough = c.a.invariant.3 net_a in omega (arith, enough, ap (λ xs. length xs) no_links);
      room_a = let enough = c.a.invariant.2 in omega (arith, enough, ap (λ xs. length xs) none_a);
      room_b = let enough = c.b.invariant.2 in omega (arith, enough, ap (λ xs. length xs) none_b);
    }

pub unreachable-requires : goal.unreachable-requires
unreachable-requires g c =
    let some = some_left g.P.PassOnLink.keeping _ _ _ (map g.P.PassOnLink.lock_id c.pop.new.self.items) _ _ _ _ _ (g.P.PassOnLink.lock_id c.in-Some.lock) (rw (c.in-Some.ensures.items, map-append g.P.PassOnLink.lock_id c.pop.new.self.items (c.in-Some.lock ∷ [])) at c.locks.invariant.so_far) in
    elim c.in_default-2.branch [
      | in_default-2-via-in-Some+in_default w ↦ search rules
      | in_default-2-via-in_default w ↦ search rules
    ]

pub settle-link-requires-clause-lock : goal.settle-link-requires-clause-lock
settle-link-requires-clause-lock g c =
    let so_far = rw (c.in-Some.ensures.items, map-append g.P.PassOnLink.lock_id c.pop.new.self.items (c.in-Some.lock ∷ []), c.in-Some-Some.ensures.items, c.in-Some-Some.ensures'.items) at c.locks.invariant.so_far in
    let last = next g.P.PassOnLink.keeping _ _ _ (map g.P.PassOnLink.lock_id c.pop.new.self.items) c.pop-in-Some.new.self.items c.pop-in-Some-2.new.self.items _ _ _ (g.P.PassOnLink.lock_id c.in-Some.lock) c.in-Some-Some.one c.in-Some-Some.other so_far in
    (last.at_a, last.at_b)

pub settle-link-requires-clause-nets : goal.settle-link-requires-clause-nets
settle-link-requires-clause-nets g c =
    let so_far = rw (c.in-Some.ensures.items, map-append g.P.PassOnLink.lock_id c.pop.new.self.items (c.in-Some.lock ∷ []), c.in-Some-Some.ensures.items, c.in-Some-Some.ensures'.items) at c.locks.invariant.so_far in
    let last = next g.P.PassOnLink.keeping _ _ _ (map g.P.PassOnLink.lock_id c.pop.new.self.items) c.pop-in-Some.new.self.items c.pop-in-Some-2.new.self.items _ _ _ (g.P.PassOnLink.lock_id c.in-Some.lock) c.in-Some-Some.one c.in-Some-Some.other so_far in
    (last.of_a, last.of_b)

pub locks-preserved : goal.locks-preserved
locks-preserved g c =
    let so_far = rw (c.in-Some.ensures.items, map-append g.P.PassOnLink.lock_id c.pop.new.self.items (c.in-Some.lock ∷ []), c.in-Some-Some.ensures.items, c.in-Some-Some.ensures'.items) at c.locks.invariant.so_far in
    let linked = c.settle-link.ensures in
    let more = one_more g.P.PassOnLink.keeping _ _ _ (map g.P.PassOnLink.lock_id c.pop.new.self.items) c.pop-in-Some.new.self.items c.pop-in-Some-2.new.self.items _ _ _ (g.P.PassOnLink.lock_id c.in-Some.lock) c.in-Some-Some.one c.in-Some-Some.other so_far g.met.P.PassOnLink.settles_known
    _ _ _ linked.link linked.a linked.b in
    record {
      so_far = rw (c.push_reserved.ensures.items, c.push_reserved-in-Some.ensures.items, c.push_reserved-in-Some-2.ensures.items) more;
      room = search rules;
      room_a = search rules;
      room_b = search rules;
    }

pub returns-clause-links : goal.returns-clause-links
returns-clause-links g c =
    let no_locks : c.locks.locks.items ≡ [] = search rules in
    let done = ends g.P.PassOnLink.keeping _ _ _ _ _ _ _ _ _ (ap (map g.P.PassOnLink.lock_id) no_locks) c.locks.invariant.so_far in
    rw c.reverse.ensures.items done.0

pub returns-clause-a : goal.returns-clause-a
returns-clause-a g c =
    let no_locks : c.locks.locks.items ≡ [] = search rules in
    let done = ends g.P.PassOnLink.keeping _ _ _ _ _ _ _ _ _ (ap (map g.P.PassOnLink.lock_id) no_locks) c.locks.invariant.so_far in
    rw c.new.ensures (is_counted g.P.PassOnLink.keeping g.met.P.PassOnLink.nothing c.args.a _ (sym c.requires.nets.0) (ap (λ pass. pass.filtered) c.a.view_is) (rw c.reverse-2.ensures.items done.1))

pub returns-clause-b : goal.returns-clause-b
returns-clause-b g c =
    let no_locks : c.locks.locks.items ≡ [] = search rules in
    let done = ends g.P.PassOnLink.keeping _ _ _ _ _ _ _ _ _ (ap (map g.P.PassOnLink.lock_id) no_locks) c.locks.invariant.so_far in
    rw c.new-2.ensures (is_counted g.P.PassOnLink.keeping g.met.P.PassOnLink.nothing c.args.b _ (sym c.requires.nets.1) (ap (λ pass. pass.filtered) c.b.view_is) (rw c.reverse-3.ensures.items done.2))
