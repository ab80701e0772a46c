use Rattle.std.proofs.Common.{◌≡◌, ◌∙◌, ◌<◌, List, Some, ap, length, refl, rules, sym}
use Rattle.std.specs.List.{slice_get}
use Rattle.std.proofs.lemmas.Option.{same_Some, slice_get_read, slice_get_within}
use Rattle.es_base.proofs.Elements.{there}
use Rattle.network_calls.proofs.Rows.{below, beside}
use Rattle.live_system.specs.Groups.{ids_in, links_of_groups}
use Rattle.live_system.specs.Pass.{KnownLink}
use Rattle.live_system.specs.System.{keeping_no_frame}
use Rattle.live_system.proofs.Cuts.{here, listed_at, within_places}
use Rattle.live_system.proofs.Reaching.{low_group}
use Rattle.live_system.proofs.system.LiveSystem.latest.Goals as goal

pub index-requires : goal.index-requires
index-requires c =
    let own = rw (← c.self.view_is) at c.requires.own in
    let known = there c.args.pass.now.links c.args.place c.requires.place in
    let found = beside keeping_no_frame c.args.pass.now.net (ids_in c.self.inside.sizes.items c.self.inside.groups.items) c.self.inside.config.links c.args.pass.now.links c.args.place known.0 own known.1 in
    let inv = c.self.invariant in
    let low = (below keeping_no_frame c.args.pass.now.net (ids_in c.self.inside.sizes.items c.self.inside.groups.items) c.self.inside.config.links c.args.pass.now.links c.args.place found.0 own found.1).0 in
    let within : c.args.place < length c.self.inside.places.items = within_places c.self.inside.sizes.items c.self.inside.groups.items c.self.inside.places.items c.args.place inv.1 inv.0 low in
    search rules

pub index-requires-2 : goal.index-requires-2
index-requires-2 c =
    let own = rw (← c.self.view_is, ← c.pass.view_is) at c.requires.own in
    let links = links_of_groups c.pass.inside.groups.items in
    let known = there links c.args.place (rw (← c.pass.view_is) at c.requires.place) in
    let found = beside keeping_no_frame c.pass.inside.net (ids_in c.self.inside.sizes.items c.self.inside.groups.items) c.self.inside.config.links links c.args.place known.0 own known.1 in
    let inv = c.self.invariant in
    let low = (below keeping_no_frame c.pass.inside.net (ids_in c.self.inside.sizes.items c.self.inside.groups.items) c.self.inside.config.links links c.args.place found.0 own found.1).0 in
    let listed = listed_at c.self.inside.sizes.items c.self.inside.groups.items c.self.inside.places.items c.args.place c.index.result.now inv.1 inv.0 low c.index.ensures in
    let h = here c.pass.inside.net c.self.inside.sizes.items c.self.inside.groups.items c.self.inside.config.links c.pass.inside.groups.items c.args.place c.index.result.now found.0 own found.1 c.pass.invariant.4 inv.2 inv.1 listed in
    let within = low_group c.pass.inside.net c.self.inside.groups.items c.pass.inside.groups.items c.args.place c.index.result.now found.0 h in
    search rules

pub latest-requires : goal.latest-requires
latest-requires c =
    let own = rw (← c.self.view_is, ← c.pass.view_is) at c.requires.own in
    let links = links_of_groups c.pass.inside.groups.items in
    let known = there links c.args.place (rw (← c.pass.view_is) at c.requires.place) in
    let found = beside keeping_no_frame c.pass.inside.net (ids_in c.self.inside.sizes.items c.self.inside.groups.items) c.self.inside.config.links links c.args.place known.0 own known.1 in
    let inv = c.self.invariant in
    let low = (below keeping_no_frame c.pass.inside.net (ids_in c.self.inside.sizes.items c.self.inside.groups.items) c.self.inside.config.links links c.args.place found.0 own found.1).0 in
    let listed = listed_at c.self.inside.sizes.items c.self.inside.groups.items c.self.inside.places.items c.args.place c.index.result.now inv.1 inv.0 low c.index.ensures in
    let h = here c.pass.inside.net c.self.inside.sizes.items c.self.inside.groups.items c.self.inside.config.links c.pass.inside.groups.items c.args.place c.index.result.now found.0 own found.1 c.pass.invariant.4 inv.2 inv.1 listed in
    let read : slice_get c.pass.inside.groups.items c.index.result.now.group ≡ Some c.index-2.result.now = slice_get_read c.pass.inside.groups.items _ c.index.result.now.group c.index-2.result.now refl
    (low_group c.pass.inside.net c.self.inside.groups.items c.pass.inside.groups.items c.args.place c.index.result.now found.0 h) c.index-2.ensures in
    let group : h.links ≡ c.index-2.result.now = same_Some h.links c.index-2.result.now (sym h.group_there ∙ read) in
    let its : slice_get c.index-2.result.now c.index.result.now.index ≡ Some h.pass = ap (λ (links : List KnownLink). slice_get links c.index.result.now.index) (sym group) ∙ h.pass_there in
    slice_get_within c.index-2.result.now c.index.result.now.index h.pass its

pub returns : goal.returns
returns c = λ on is.
    let own = rw (← c.self.view_is, ← c.pass.view_is) at c.requires.own in
    let links = links_of_groups c.pass.inside.groups.items in
    let known = there links c.args.place (rw (← c.pass.view_is) at c.requires.place) in
    let found = beside keeping_no_frame c.pass.inside.net (ids_in c.self.inside.sizes.items c.self.inside.groups.items) c.self.inside.config.links links c.args.place known.0 own known.1 in
    let inv = c.self.invariant in
    let low = (below keeping_no_frame c.pass.inside.net (ids_in c.self.inside.sizes.items c.self.inside.groups.items) c.self.inside.config.links links c.args.place found.0 own found.1).0 in
    let listed = listed_at c.self.inside.sizes.items c.self.inside.groups.items c.self.inside.places.items c.args.place c.index.result.now inv.1 inv.0 low c.index.ensures in
    let h = here c.pass.inside.net c.self.inside.sizes.items c.self.inside.groups.items c.self.inside.config.links c.pass.inside.groups.items c.args.place c.index.result.now found.0 own found.1 c.pass.invariant.4 inv.2 inv.1 listed in
    let read : slice_get c.pass.inside.groups.items c.index.result.now.group ≡ Some c.index-2.result.now = slice_get_read c.pass.inside.groups.items _ c.index.result.now.group c.index-2.result.now refl
    (low_group c.pass.inside.net c.self.inside.groups.items c.pass.inside.groups.items c.args.place c.index.result.now found.0 h) c.index-2.ensures in
    let group : h.links ≡ c.index-2.result.now = same_Some h.links c.index-2.result.now (sym h.group_there ∙ read) in
    let its : slice_get c.index-2.result.now c.index.result.now.index ≡ Some h.pass = ap (λ (links : List KnownLink). slice_get links c.index.result.now.index) (sym group) ∙ h.pass_there in
    let same : h.pass ≡ on = same_Some h.pass on (sym h.of_all ∙ (rw (← c.pass.view_is) at is)) in
    c.latest.ensures on (its ∙ ap (λ (k : KnownLink). Some k) same)
