use Rattle.std.proofs.Common.{◌≡◌, ◌∙◌, ◌<◌, ap, length, refl, rules, sym}
use Rattle.std.proofs.lemmas.Option.{same_Some}
use Rattle.network_calls.proofs.Rows.{below, beside}
use Rattle.receiver.specs.declared.port.PortOutlet.{PortOutlet}
use Rattle.receiver.specs.Meetings.{HasOutletAt}
use Rattle.receiver.specs.Port.{IsQueueOf}
use Rattle.live_system.specs.Calls.{LiveLink}
use Rattle.live_system.specs.Groups.{ids_in, links_of_groups}
use Rattle.live_system.specs.Pass.{KnownLink}
use Rattle.live_system.specs.System.{keeping_no_frame}
use Rattle.live_system.proofs.Cuts.{group_within, here, listed_at, within_places}
use Rattle.live_system.proofs.Reaching.{knows, low_group, set_read, visits_all}
use Rattle.live_system.proofs.system.LiveSystem.meet_taker.Goals as goal

pub index-requires : goal.index-requires
index-requires g c =
    let own = rw (← c.self.view_is) at c.requires.own in
    let known = c.requires.outlet in
    let found = beside keeping_no_frame c.args.pass.now.net (ids_in c.self.inside.sizes.items c.self.inside.groups.items) c.self.inside.config.links c.args.pass.now.links c.args.place known.0 own known.1 in
    let inv = c.self.invariant in
    let low = (below keeping_no_frame c.args.pass.now.net (ids_in c.self.inside.sizes.items c.self.inside.groups.items) c.self.inside.config.links c.args.pass.now.links c.args.place found.0 own found.1).0 in
    let within : c.args.place < length c.self.inside.places.items = within_places c.self.inside.sizes.items c.self.inside.groups.items c.self.inside.places.items c.args.place inv.1 inv.0 low in
    search rules

pub index-lock-requires : goal.index-lock-requires
index-lock-requires g c =
    let own = rw (← c.self.view_is) at c.requires.own in
    let known = c.requires.outlet in
    let found = beside keeping_no_frame c.args.pass.now.net (ids_in c.self.inside.sizes.items c.self.inside.groups.items) c.self.inside.config.links c.args.pass.now.links c.args.place known.0 own known.1 in
    let inv = c.self.invariant in
    let low = (below keeping_no_frame c.args.pass.now.net (ids_in c.self.inside.sizes.items c.self.inside.groups.items) c.self.inside.config.links c.args.pass.now.links c.args.place found.0 own found.1).0 in
    let listed = listed_at c.self.inside.sizes.items c.self.inside.groups.items c.self.inside.places.items c.args.place c.index.result.now inv.1 inv.0 low c.index.ensures in
    let within = group_within c.self.inside.sizes.items c.args.place c.index.result.now c.self.inside.groups.items inv.1 listed in
    search rules

pub index_mut-requires : goal.index_mut-requires
index_mut-requires g c =
    let own = rw (← c.self.view_is, ← c.pass.view_is) at c.requires.own in
    let known = rw (← c.pass.view_is) at c.requires.outlet in
    let found = beside keeping_no_frame c.pass.inside.net (ids_in c.self.inside.sizes.items c.self.inside.groups.items) c.self.inside.config.links (links_of_groups c.pass.inside.groups.items) c.args.place known.0 own known.1 in
    let inv = c.self.invariant in
    let low = (below keeping_no_frame c.pass.inside.net (ids_in c.self.inside.sizes.items c.self.inside.groups.items) c.self.inside.config.links (links_of_groups c.pass.inside.groups.items) c.args.place found.0 own found.1).0 in
    let listed = listed_at c.self.inside.sizes.items c.self.inside.groups.items c.self.inside.places.items c.args.place c.index.result.now inv.1 inv.0 low c.index.ensures in
    let h = here c.pass.inside.net c.self.inside.sizes.items c.self.inside.groups.items c.self.inside.config.links c.pass.inside.groups.items c.args.place c.index.result.now found.0 own found.1 c.pass.invariant.4 inv.2 inv.1 listed in
    let within = low_group c.pass.inside.net c.self.inside.groups.items c.pass.inside.groups.items c.args.place c.index.result.now found.0 h in
    search rules

pub meet_taker-requires : goal.meet_taker-requires
meet_taker-requires g c =
    let own = rw (← c.self.view_is, ← c.pass.view_is) at c.requires.own in
    let known = rw (← c.pass.view_is) at c.requires.outlet in
    let found = beside keeping_no_frame c.pass.inside.net (ids_in c.self.inside.sizes.items c.self.inside.groups.items) c.self.inside.config.links (links_of_groups c.pass.inside.groups.items) c.args.place known.0 own known.1 in
    let inv = c.self.invariant in
    let low = (below keeping_no_frame c.pass.inside.net (ids_in c.self.inside.sizes.items c.self.inside.groups.items) c.self.inside.config.links (links_of_groups c.pass.inside.groups.items) c.args.place found.0 own found.1).0 in
    let listed = listed_at c.self.inside.sizes.items c.self.inside.groups.items c.self.inside.places.items c.args.place c.index.result.now inv.1 inv.0 low c.index.ensures in
    let h = here c.pass.inside.net c.self.inside.sizes.items c.self.inside.groups.items c.self.inside.config.links c.pass.inside.groups.items c.args.place c.index.result.now found.0 own found.1 c.pass.invariant.4 inv.2 inv.1 listed in
    let same : known.0 ≡ h.pass = same_Some known.0 h.pass (sym known.1 ∙ h.of_all) in
    knows c.pass.inside.net c.self.inside.groups.items c.pass.inside.groups.items c.args.place c.index.result.now found.0 h c.index-lock.result.now c.index-lock.ensures c.index_mut.result.now c.index_mut.ensures.value (λ (link : LiveLink). HasOutletAt link c.args.port (λ (outlet : PortOutlet). IsQueueOf outlet c.args.taker)) known.2 (ap (λ (pass : KnownLink). pass.link) (sym same) ∙ known.3) known.4

pub invariant_of-pass : goal.invariant_of-pass
invariant_of-pass g c =
    let own = rw (← c.self.view_is, ← c.pass.view_is) at c.requires.own in
    let known = rw (← c.pass.view_is) at c.requires.outlet in
    let found = beside keeping_no_frame c.pass.inside.net (ids_in c.self.inside.sizes.items c.self.inside.groups.items) c.self.inside.config.links (links_of_groups c.pass.inside.groups.items) c.args.place known.0 own known.1 in
    let inv = c.self.invariant in
    let low = (below keeping_no_frame c.pass.inside.net (ids_in c.self.inside.sizes.items c.self.inside.groups.items) c.self.inside.config.links (links_of_groups c.pass.inside.groups.items) c.args.place found.0 own found.1).0 in
    let listed = listed_at c.self.inside.sizes.items c.self.inside.groups.items c.self.inside.places.items c.args.place c.index.result.now inv.1 inv.0 low c.index.ensures in
    let h = here c.pass.inside.net c.self.inside.sizes.items c.self.inside.groups.items c.self.inside.config.links c.pass.inside.groups.items c.args.place c.index.result.now found.0 own found.1 c.pass.invariant.4 inv.2 inv.1 listed in
    let same = set_read c.pass.inside.net c.self.inside.groups.items c.pass.inside.groups.items c.args.place c.index.result.now found.0 h c.index-lock.result.now c.index-lock.ensures c.index_mut.result.now c.index_mut.ensures.value c.meet_taker.new.self c.meet_taker.ensures.pass in
    rw same c.pass.invariant

pub returns-clause-pass : goal.returns-clause-pass
returns-clause-pass g c =
    let own = rw (← c.self.view_is, ← c.pass.view_is) at c.requires.own in
    let known = rw (← c.pass.view_is) at c.requires.outlet in
    let found = beside keeping_no_frame c.pass.inside.net (ids_in c.self.inside.sizes.items c.self.inside.groups.items) c.self.inside.config.links (links_of_groups c.pass.inside.groups.items) c.args.place known.0 own known.1 in
    let inv = c.self.invariant in
    let low = (below keeping_no_frame c.pass.inside.net (ids_in c.self.inside.sizes.items c.self.inside.groups.items) c.self.inside.config.links (links_of_groups c.pass.inside.groups.items) c.args.place found.0 own found.1).0 in
    let listed = listed_at c.self.inside.sizes.items c.self.inside.groups.items c.self.inside.places.items c.args.place c.index.result.now inv.1 inv.0 low c.index.ensures in
    let h = here c.pass.inside.net c.self.inside.sizes.items c.self.inside.groups.items c.self.inside.config.links c.pass.inside.groups.items c.args.place c.index.result.now found.0 own found.1 c.pass.invariant.4 inv.2 inv.1 listed in
    let same = set_read c.pass.inside.net c.self.inside.groups.items c.pass.inside.groups.items c.args.place c.index.result.now found.0 h c.index-lock.result.now c.index-lock.ensures c.index_mut.result.now c.index_mut.ensures.value c.meet_taker.new.self c.meet_taker.ensures.pass in
    rw (← c.pass.view_is, same) refl

pub returns-clause-meets : goal.returns-clause-meets
returns-clause-meets g c =
    let own = rw (← c.self.view_is, ← c.pass.view_is) at c.requires.own in
    let known = rw (← c.pass.view_is) at c.requires.outlet in
    let found = beside keeping_no_frame c.pass.inside.net (ids_in c.self.inside.sizes.items c.self.inside.groups.items) c.self.inside.config.links (links_of_groups c.pass.inside.groups.items) c.args.place known.0 own known.1 in
    let inv = c.self.invariant in
    let low = (below keeping_no_frame c.pass.inside.net (ids_in c.self.inside.sizes.items c.self.inside.groups.items) c.self.inside.config.links (links_of_groups c.pass.inside.groups.items) c.args.place found.0 own found.1).0 in
    let listed = listed_at c.self.inside.sizes.items c.self.inside.groups.items c.self.inside.places.items c.args.place c.index.result.now inv.1 inv.0 low c.index.ensures in
    let h = here c.pass.inside.net c.self.inside.sizes.items c.self.inside.groups.items c.self.inside.config.links c.pass.inside.groups.items c.args.place c.index.result.now found.0 own found.1 c.pass.invariant.4 inv.2 inv.1 listed in
    rw (← c.pass.view_is) (visits_all c.pass.inside.net c.self.inside.groups.items c.pass.inside.groups.items c.args.place c.index.result.now found.0 h c.index-lock.result.now c.index-lock.ensures c.index_mut.result.now c.index_mut.ensures.value _ c.meet_taker.ensures.meets)
