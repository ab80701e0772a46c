use Rattle.std.proofs.Common.{◌≡◌, [], ap, arith, length, refl, rules, sym}
use Rattle.es_base.specs.declared.place.Net.TheVariants.{A, B}
use Rattle.network_calls.proofs.Looking.{is_counted}
use Rattle.network_calls.proofs.Settling.{begins, ends}
use Rattle.live_system.specs.Groups.{ids_in, links_of_groups}
use Rattle.live_system.specs.System.{keeping_no_frame}
use Rattle.live_system.proofs.Ending.{next, no_ids, one_more, some_left}
use Rattle.live_system.proofs.GroupEnds.{counted_many, let_go_many, room_for, room_left}
use Rattle.live_system.proofs.system.LiveSystem.settle.Goals as goal
use Rattle.live_system.proofs.system.LiveSystem.settle.Goals.{in_default-2-via-in-Some+in_default, in_default-2-via-in_default}

pub groups-init : goal.groups-init
groups-init c =
    let s = c.self.inside in
    let own = rw (← c.self.view_is, ← c.a.view_is, ← c.b.view_is) at c.requires.own in
    let net_a : c.a.inside.net ≡ A = rw (← c.a.view_is) at c.requires.nets.0 in
    let net_b : c.b.inside.net ≡ B = rw (← c.b.view_is) at c.requires.nets.1 in
    let no_links = c.a.invariant.0 in
    let none_a = c.a.invariant.1 in
    let none_b = c.b.invariant.1 in
    record {
      so_far = rw (← c.self.view_is, ← c.a.view_is, ← c.b.view_is) (record {
        sizes = s.sizes.items;
        some = c.self.invariant.2;
        many = c.self.invariant.1;
        groups_a = c.a.invariant.4;
        groups_b = c.b.invariant.4;
        so_far = begins keeping_no_frame s.config.links (links_of_groups c.a.inside.groups.items) (links_of_groups c.b.inside.groups.items) (ids_in s.sizes.items s.groups.items) c.a.inside.settled.items c.a.inside.counts.items c.b.inside.counts.items
            (rw net_a at own.0) (rw net_b at own.1) no_links none_a none_b;
      });
      room = let enough = c.a.invariant.3 net_a in omega (arith, enough, ap (λ xs. length xs) no_links);
      room_a = let enough = c.a.invariant.2 in omega (arith, enough, ap (λ xs. length xs) none_a);
      room_b = let enough = c.b.invariant.2 in omega (arith, enough, ap (λ xs. length xs) none_b);
    }

pub unreachable-requires : goal.unreachable-requires
unreachable-requires c =
    let some = some_left _ _ _ c.pop.new.self.items c.in-Some.lock _ _ _ _ _ (rw c.in-Some.ensures.items at c.groups.invariant.so_far) in
    elim c.in_default-2.branch [
      | in_default-2-via-in-Some+in_default w ↦ search rules
      | in_default-2-via-in_default w ↦ search rules
    ]

pub settle-requires-clause-own : goal.settle-requires-clause-own
settle-requires-clause-own c =
    let end = rw (c.in-Some.ensures.items, c.in-Some-Some.ensures.items, c.in-Some-Some.ensures'.items) at c.groups.invariant.so_far in
    next _ _ _ c.pop.new.self.items c.in-Some.lock c.pop-in-Some.new.self.items c.pop-in-Some-2.new.self.items c.in-Some-Some.one c.in-Some-Some.other _ _ _ end

pub settle-requires-clause-room : goal.settle-requires-clause-room
settle-requires-clause-room c = room_for _ _ c.pop-in-Some.new.self.items c.in-Some-Some.one (rw c.in-Some-Some.ensures.items at c.groups.invariant.room)

pub settle-requires-clause-room_a : goal.settle-requires-clause-room_a
settle-requires-clause-room_a c = room_for _ _ c.pop-in-Some.new.self.items c.in-Some-Some.one (rw c.in-Some-Some.ensures.items at c.groups.invariant.room_a)

pub settle-requires-clause-room_b : goal.settle-requires-clause-room_b
settle-requires-clause-room_b c = room_for _ _ c.pop-in-Some-2.new.self.items c.in-Some-Some.other (rw c.in-Some-Some.ensures'.items at c.groups.invariant.room_b)

pub groups-preserved : goal.groups-preserved
groups-preserved c =
    let end = rw (c.in-Some.ensures.items, c.in-Some-Some.ensures.items, c.in-Some-Some.ensures'.items) at c.groups.invariant.so_far in
    let links = c.settle.ensures.links in
    let a = c.settle.ensures.a in
    let b = c.settle.ensures.b in
    let ones = c.pop-in-Some.new.self.items in
    let others = c.pop-in-Some-2.new.self.items in
    let one = c.in-Some-Some.one in
    let other = c.in-Some-Some.other in
    let more = one_more _ _ _ c.pop.new.self.items c.in-Some.lock ones others one other _ _ _ end links.0 a.0 b.0 links.2 a.2 b.2 in
    let room = rw c.in-Some-Some.ensures.items at c.groups.invariant.room in
    let room_a = rw c.in-Some-Some.ensures.items at c.groups.invariant.room_a in
    let room_b = rw c.in-Some-Some.ensures'.items at c.groups.invariant.room_b in
    let same = c.settle.ensures.room in
    record {
      so_far = rw (links.1, a.1, b.1) more;
      room = rw same.0 (room_left _ _ links.0 _ ones one links.1 (let_go_many one other links.0 links.2).0 room);
      room_a = rw same.1 (room_left _ _ a.0 _ ones one a.1 (counted_many A one a.0 a.2) room_a);
      room_b = rw same.2 (room_left _ _ b.0 _ others other b.1 (counted_many B other b.0 b.2) room_b);
    }

pub returns-clause-links : goal.returns-clause-links
returns-clause-links c =
    let no_locks : c.groups.groups.items ≡ [] = search rules in
    let end = c.groups.invariant.so_far in
    let done = ends keeping_no_frame _ _ _ _ _ _ _ _ _ (no_ids end.sizes _ no_locks) end.so_far in
    rw c.reverse.ensures.items done.0

pub returns-clause-a : goal.returns-clause-a
returns-clause-a c =
    let no_locks : c.groups.groups.items ≡ [] = search rules in
    let end = c.groups.invariant.so_far in
    let done = ends keeping_no_frame _ _ _ _ _ _ _ _ _ (no_ids end.sizes _ no_locks) end.so_far in
    rw c.new.ensures (is_counted keeping_no_frame refl c.args.a _ (sym c.requires.nets.0) (ap (λ pass. pass.filtered) c.a.view_is) (rw c.reverse-2.ensures.items done.1))

pub returns-clause-b : goal.returns-clause-b
returns-clause-b c =
    let no_locks : c.groups.groups.items ≡ [] = search rules in
    let end = c.groups.invariant.so_far in
    let done = ends keeping_no_frame _ _ _ _ _ _ _ _ _ (no_ids end.sizes _ no_locks) end.so_far in
    rw c.new-2.ensures (is_counted keeping_no_frame refl c.args.b _ (sym c.requires.nets.1) (ap (λ pass. pass.filtered) c.b.view_is) (rw c.reverse-3.ensures.items done.2))
