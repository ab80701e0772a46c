use Rattle.std.proofs.Common.{◌≡◌, ◌<◌, ap, length, refl, rules}
use Rattle.es_base.specs.declared.place.LinkNo.{LinkNo}
use Rattle.es_base.specs.Frame.{link_number_of}
use Rattle.es_base.proofs.Addressed.{link_at}
use Rattle.network_calls.proofs.Rows.{below, numbered}
use Rattle.live_system.specs.Calls.{LiveLink}
use Rattle.live_system.specs.Groups.{ids_in, links_of_groups}
use Rattle.live_system.specs.System.{keeping_no_frame}
use Rattle.live_system.proofs.Cuts.{group_within, here, listed_at, within_places}
use Rattle.live_system.proofs.Knowing.{same_after}
use Rattle.live_system.proofs.Reaching.{as_long, does_all, groups_after, knows, low_group, own_after}
use Rattle.live_system.proofs.system.LiveSystem.try_receive_at.Goals as goal

pub index-requires : goal.index-requires
index-requires c =
    let own = rw (← c.self.view_is) at c.requires.own in
    let at_place = rw (← c.self.view_is) at c.requires.place in
    let found = link_at c.self.inside.config c.args.frame.now.whole.now c.args.at at_place in
    let inv = c.self.invariant in
    let low = (below keeping_no_frame c.args.pass.now.net (ids_in c.self.inside.sizes.items c.self.inside.groups.items) c.self.inside.config.links c.args.pass.now.links c.args.at found.0 own found.1.there).0 in
    let within : c.args.at < length c.self.inside.places.items = within_places c.self.inside.sizes.items c.self.inside.groups.items c.self.inside.places.items c.args.at inv.1 inv.0 low in
    search rules

pub index-lock-requires : goal.index-lock-requires
index-lock-requires c =
    let own = rw (← c.self.view_is) at c.requires.own in
    let at_place = rw (← c.self.view_is) at c.requires.place in
    let found = link_at c.self.inside.config c.args.frame.now.whole.now c.args.at at_place in
    let inv = c.self.invariant in
    let low = (below keeping_no_frame c.args.pass.now.net (ids_in c.self.inside.sizes.items c.self.inside.groups.items) c.self.inside.config.links c.args.pass.now.links c.args.at found.0 own found.1.there).0 in
    let listed = listed_at c.self.inside.sizes.items c.self.inside.groups.items c.self.inside.places.items c.args.at c.index.result.now inv.1 inv.0 low c.index.ensures in
    let within = group_within c.self.inside.sizes.items c.args.at c.index.result.now c.self.inside.groups.items inv.1 listed in
    search rules

pub index_mut-requires : goal.index_mut-requires
index_mut-requires c =
    let own = rw (← c.self.view_is, ← c.pass.view_is) at c.requires.own in
    let at_place = rw (← c.self.view_is) at c.requires.place in
    let found = link_at c.self.inside.config c.args.frame.now.whole.now c.args.at at_place in
    let inv = c.self.invariant in
    let low = (below keeping_no_frame c.pass.inside.net (ids_in c.self.inside.sizes.items c.self.inside.groups.items) c.self.inside.config.links (links_of_groups c.pass.inside.groups.items) c.args.at found.0 own found.1.there).0 in
    let listed = listed_at c.self.inside.sizes.items c.self.inside.groups.items c.self.inside.places.items c.args.at c.index.result.now inv.1 inv.0 low c.index.ensures in
    let h = here c.pass.inside.net c.self.inside.sizes.items c.self.inside.groups.items c.self.inside.config.links c.pass.inside.groups.items c.args.at c.index.result.now found.0 own found.1.there c.pass.invariant.4 inv.2 inv.1 listed in
    let within = low_group c.pass.inside.net c.self.inside.groups.items c.pass.inside.groups.items c.args.at c.index.result.now found.0 h in
    search rules

pub try_receive-requires : goal.try_receive-requires
try_receive-requires c =
    let own = rw (← c.self.view_is, ← c.pass.view_is) at c.requires.own in
    let at_place = rw (← c.self.view_is) at c.requires.place in
    let found = link_at c.self.inside.config c.args.frame.now.whole.now c.args.at at_place in
    let inv = c.self.invariant in
    let low = (below keeping_no_frame c.pass.inside.net (ids_in c.self.inside.sizes.items c.self.inside.groups.items) c.self.inside.config.links (links_of_groups c.pass.inside.groups.items) c.args.at found.0 own found.1.there).0 in
    let listed = listed_at c.self.inside.sizes.items c.self.inside.groups.items c.self.inside.places.items c.args.at c.index.result.now inv.1 inv.0 low c.index.ensures in
    let h = here c.pass.inside.net c.self.inside.sizes.items c.self.inside.groups.items c.self.inside.config.links c.pass.inside.groups.items c.args.at c.index.result.now found.0 own found.1.there c.pass.invariant.4 inv.2 inv.1 listed in
    let number = numbered keeping_no_frame _ _ _ _ c.args.frame.now.whole.now h.is_pass found.1.numbered in
    knows c.pass.inside.net c.self.inside.groups.items c.pass.inside.groups.items c.args.at c.index.result.now found.0 h c.index-lock.result.now c.index-lock.ensures c.index_mut.result.now c.index_mut.ensures.value (λ (link : LiveLink). link_number_of c.args.frame.now.whole.now ≡ link.core.settings.vl.0) number.0 number.1 number.2

pub invariant_of-pass-2 : goal.invariant_of-pass-2
invariant_of-pass-2 c =
    let own = rw (← c.self.view_is, ← c.pass.view_is) at c.requires.own in
    let at_place = rw (← c.self.view_is) at c.requires.place in
    let found = link_at c.self.inside.config c.args.frame.now.whole.now c.args.at at_place in
    let inv = c.self.invariant in
    let low = (below keeping_no_frame c.pass.inside.net (ids_in c.self.inside.sizes.items c.self.inside.groups.items) c.self.inside.config.links (links_of_groups c.pass.inside.groups.items) c.args.at found.0 own found.1.there).0 in
    let listed = listed_at c.self.inside.sizes.items c.self.inside.groups.items c.self.inside.places.items c.args.at c.index.result.now inv.1 inv.0 low c.index.ensures in
    let h = here c.pass.inside.net c.self.inside.sizes.items c.self.inside.groups.items c.self.inside.config.links c.pass.inside.groups.items c.args.at c.index.result.now found.0 own found.1.there c.pass.invariant.4 inv.2 inv.1 listed in
    let call = c.in_ok-place.ensures.calls in
    let long = as_long c.pass.inside.net c.self.inside.groups.items c.pass.inside.groups.items c.args.at c.index.result.now found.0 h c.index-lock.result.now c.index-lock.ensures c.index_mut.result.now c.index_mut.ensures.value _ _ call.2 in
    let still = groups_after c.pass.inside.net c.self.inside.groups.items c.pass.inside.groups.items c.args.at c.index.result.now found.0 h c.index-lock.result.now c.index-lock.ensures c.index_mut.result.now c.index_mut.ensures.value _ _ call.2 (same_after _ _ _ call.2.does) c.pass.invariant.4 in
    let was = c.pass.invariant in
    (was.0, was.1, rw long was.2, (λ net. rw long (was.3 net)), still)

pub returns-clause-own : goal.returns-clause-own
returns-clause-own c =
    let own = rw (← c.self.view_is, ← c.pass.view_is) at c.requires.own in
    let at_place = rw (← c.self.view_is) at c.requires.place in
    let found = link_at c.self.inside.config c.args.frame.now.whole.now c.args.at at_place in
    let inv = c.self.invariant in
    let low = (below keeping_no_frame c.pass.inside.net (ids_in c.self.inside.sizes.items c.self.inside.groups.items) c.self.inside.config.links (links_of_groups c.pass.inside.groups.items) c.args.at found.0 own found.1.there).0 in
    let listed = listed_at c.self.inside.sizes.items c.self.inside.groups.items c.self.inside.places.items c.args.at c.index.result.now inv.1 inv.0 low c.index.ensures in
    let h = here c.pass.inside.net c.self.inside.sizes.items c.self.inside.groups.items c.self.inside.config.links c.pass.inside.groups.items c.args.at c.index.result.now found.0 own found.1.there c.pass.invariant.4 inv.2 inv.1 listed in
    let call = c.in_ok-place.ensures.calls in
    rw (← c.self.view_is) (own_after c.pass.inside.net c.self.inside.groups.items c.pass.inside.groups.items c.args.at c.index.result.now found.0 h c.index-lock.result.now c.index-lock.ensures c.index_mut.result.now c.index_mut.ensures.value _ _ call.2 (same_after _ _ _ call.2.does) c.self.inside.sizes.items c.self.inside.config.links own)

pub returns-clause-replies : goal.returns-clause-replies
returns-clause-replies c =
    let own = rw (← c.self.view_is, ← c.pass.view_is) at c.requires.own in
    let at_place = rw (← c.self.view_is) at c.requires.place in
    let found = link_at c.self.inside.config c.args.frame.now.whole.now c.args.at at_place in
    let inv = c.self.invariant in
    let low = (below keeping_no_frame c.pass.inside.net (ids_in c.self.inside.sizes.items c.self.inside.groups.items) c.self.inside.config.links (links_of_groups c.pass.inside.groups.items) c.args.at found.0 own found.1.there).0 in
    let listed = listed_at c.self.inside.sizes.items c.self.inside.groups.items c.self.inside.places.items c.args.at c.index.result.now inv.1 inv.0 low c.index.ensures in
    let h = here c.pass.inside.net c.self.inside.sizes.items c.self.inside.groups.items c.self.inside.config.links c.pass.inside.groups.items c.args.at c.index.result.now found.0 own found.1.there c.pass.invariant.4 inv.2 inv.1 listed in
    let call = c.in_ok-place.ensures.calls in
    rw (← c.self.view_is, ← c.pass.view_is) (
      at_place,
      ap (λ n. let number : LinkNo = record { 0 = n } in number) c.args.frame.now.vl_is,
      refl,
      call.0,
      call.1,
      does_all c.pass.inside.net c.self.inside.groups.items c.pass.inside.groups.items c.args.at c.index.result.now found.0 h c.index-lock.result.now c.index-lock.ensures c.index_mut.result.now c.index_mut.ensures.value _ _ call.2,
    )
