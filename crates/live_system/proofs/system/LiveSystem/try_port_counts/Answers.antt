use Rattle.std.proofs.Common.{◌≡◌, ◌<◌, Option, Some, length, rules}
use Rattle.std.specs.List.{slice_get}
use Rattle.es_base.proofs.Elements.{there}
use Rattle.network_calls.proofs.Rows.{below, beside}
use Rattle.live_system.specs.Groups.{ids_in, is_any, links_of_groups}
use Rattle.live_system.specs.System.{keeping_no_frame}
use Rattle.live_system.proofs.Cuts.{group_within, here, listed_at, within_places}
use Rattle.link_core.specs.declared.port_tally.PortCounts.{PortCounts}
use Rattle.live_system.specs.Calls.{LiveLink}
use Rattle.live_system.specs.Health.{TellsOfPort}
use Rattle.live_system.specs.Meetings.{VisitsAt}
use Rattle.live_system.proofs.Reaching.{knows, low_group, visits_all}
use Rattle.live_system.proofs.Telling.{if_some}
use Rattle.live_system.proofs.system.LiveSystem.try_port_counts.Goals as goal

pub index-requires : goal.index-requires
index-requires c =
    let own = rw (← c.self.view_is) at c.requires.own in
    let known = there c.args.pass.now.links c.args.place c.requires.place in
    let found = beside keeping_no_frame c.args.pass.now.net (ids_in c.self.inside.sizes.items c.self.inside.groups.items) c.self.inside.config.links c.args.pass.now.links c.args.place known.0 own known.1 in
    let inv = c.self.invariant in
    let low = (below keeping_no_frame c.args.pass.now.net (ids_in c.self.inside.sizes.items c.self.inside.groups.items) c.self.inside.config.links c.args.pass.now.links c.args.place found.0 own found.1).0 in
    let within : c.args.place < length c.self.inside.places.items = within_places c.self.inside.sizes.items c.self.inside.groups.items c.self.inside.places.items c.args.place inv.1 inv.0 low in
    search rules

pub index-lock-requires : goal.index-lock-requires
index-lock-requires c =
    let own = rw (← c.self.view_is) at c.requires.own in
    let known = there c.args.pass.now.links c.args.place c.requires.place in
    let found = beside keeping_no_frame c.args.pass.now.net (ids_in c.self.inside.sizes.items c.self.inside.groups.items) c.self.inside.config.links c.args.pass.now.links c.args.place known.0 own known.1 in
    let inv = c.self.invariant in
    let low = (below keeping_no_frame c.args.pass.now.net (ids_in c.self.inside.sizes.items c.self.inside.groups.items) c.self.inside.config.links c.args.pass.now.links c.args.place found.0 own found.1).0 in
    let listed = listed_at c.self.inside.sizes.items c.self.inside.groups.items c.self.inside.places.items c.args.place c.index.result.now inv.1 inv.0 low c.index.ensures in
    let within = group_within c.self.inside.sizes.items c.args.place c.index.result.now c.self.inside.groups.items inv.1 listed in
    search rules

pub index_mut-requires : goal.index_mut-requires
index_mut-requires c =
    let own = rw (← c.self.view_is, ← c.pass.view_is) at c.requires.own in
    let links = links_of_groups c.pass.inside.groups.items in
    let known = there links c.args.place (rw (← c.pass.view_is) at c.requires.place) in
    let found = beside keeping_no_frame c.pass.inside.net (ids_in c.self.inside.sizes.items c.self.inside.groups.items) c.self.inside.config.links links c.args.place known.0 own known.1 in
    let inv = c.self.invariant in
    let low = (below keeping_no_frame c.pass.inside.net (ids_in c.self.inside.sizes.items c.self.inside.groups.items) c.self.inside.config.links links c.args.place found.0 own found.1).0 in
    let listed = listed_at c.self.inside.sizes.items c.self.inside.groups.items c.self.inside.places.items c.args.place c.index.result.now inv.1 inv.0 low c.index.ensures in
    let h = here c.pass.inside.net c.self.inside.sizes.items c.self.inside.groups.items c.self.inside.config.links c.pass.inside.groups.items c.args.place c.index.result.now found.0 own found.1 c.pass.invariant.4 inv.2 inv.1 listed in
    let within = low_group c.pass.inside.net c.self.inside.groups.items c.pass.inside.groups.items c.args.place c.index.result.now found.0 h in
    search rules

pub try_port_counts-requires : goal.try_port_counts-requires
try_port_counts-requires c =
    let own = rw (← c.self.view_is, ← c.pass.view_is) at c.requires.own in
    let links = links_of_groups c.pass.inside.groups.items in
    let known = there links c.args.place (rw (← c.pass.view_is) at c.requires.place) in
    let found = beside keeping_no_frame c.pass.inside.net (ids_in c.self.inside.sizes.items c.self.inside.groups.items) c.self.inside.config.links links c.args.place known.0 own known.1 in
    let inv = c.self.invariant in
    let low = (below keeping_no_frame c.pass.inside.net (ids_in c.self.inside.sizes.items c.self.inside.groups.items) c.self.inside.config.links links c.args.place found.0 own found.1).0 in
    let listed = listed_at c.self.inside.sizes.items c.self.inside.groups.items c.self.inside.places.items c.args.place c.index.result.now inv.1 inv.0 low c.index.ensures in
    let h = here c.pass.inside.net c.self.inside.sizes.items c.self.inside.groups.items c.self.inside.config.links c.pass.inside.groups.items c.args.place c.index.result.now found.0 own found.1 c.pass.invariant.4 inv.2 inv.1 listed in
    knows c.pass.inside.net c.self.inside.groups.items c.pass.inside.groups.items c.args.place c.index.result.now found.0 h c.index-lock.result.now c.index-lock.ensures c.index_mut.result.now c.index_mut.ensures.value is_any h.is_pass.link h.is_pass.known tt

pub returns-clause-counts : goal.returns-clause-counts
returns-clause-counts c =
    let own = rw (← c.self.view_is, ← c.pass.view_is) at c.requires.own in
    let links = links_of_groups c.pass.inside.groups.items in
    let known = there links c.args.place (rw (← c.pass.view_is) at c.requires.place) in
    let found = beside keeping_no_frame c.pass.inside.net (ids_in c.self.inside.sizes.items c.self.inside.groups.items) c.self.inside.config.links links c.args.place known.0 own known.1 in
    let inv = c.self.invariant in
    let low = (below keeping_no_frame c.pass.inside.net (ids_in c.self.inside.sizes.items c.self.inside.groups.items) c.self.inside.config.links links c.args.place found.0 own found.1).0 in
    let listed = listed_at c.self.inside.sizes.items c.self.inside.groups.items c.self.inside.places.items c.args.place c.index.result.now inv.1 inv.0 low c.index.ensures in
    let h = here c.pass.inside.net c.self.inside.sizes.items c.self.inside.groups.items c.self.inside.config.links c.pass.inside.groups.items c.args.place c.index.result.now found.0 own found.1 c.pass.invariant.4 inv.2 inv.1 listed in
    rw (← c.pass.view_is)
    (if_some c.try_port_counts.result (λ (counts : Option PortCounts). VisitsAt c.index_mut.result.now c.index.result.now.index (λ (found : LiveLink) (left : LiveLink). TellsOfPort c.args.port counts found left))
    (λ (counts : Option PortCounts). VisitsAt links c.args.place (λ (found : LiveLink) (left : LiveLink). TellsOfPort c.args.port counts found left))
    (λ counts visits.
    visits_all c.pass.inside.net c.self.inside.groups.items c.pass.inside.groups.items c.args.place c.index.result.now found.0 h c.index-lock.result.now c.index-lock.ensures c.index_mut.result.now c.index_mut.ensures.value
    (λ (found : LiveLink) (left : LiveLink). TellsOfPort c.args.port counts found left) visits)
    c.try_port_counts.ensures.counts)
