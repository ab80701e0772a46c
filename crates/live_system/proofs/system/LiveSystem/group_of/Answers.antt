use Rattle.std.proofs.Common.{rules, ◌<◌, length, arith}
use Rattle.live_system.specs.Groups.{ids_in}
use Rattle.live_system.proofs.Cuts.{group_within, listed_at, within_places}
use Rattle.live_system.proofs.GroupPlaces.{all_begun, group_is}
use Rattle.live_system.proofs.system.LiveSystem.group_of.Goals as goal

pub index-requires : goal.index-requires
index-requires c =
    let inv = c.self.invariant in
    let low : c.args.at < length (ids_in c.self.inside.sizes.items c.self.inside.groups.items) = rw (← c.self.view_is) at c.requires in
    let within : c.args.at < length c.self.inside.places.items = within_places c.self.inside.sizes.items c.self.inside.groups.items c.self.inside.places.items c.args.at inv.1 inv.0 low in
    search rules

pub returns-clause-group : goal.returns-clause-group
returns-clause-group c =
    let inv = c.self.invariant in
    let low : c.args.at < length (ids_in c.self.inside.sizes.items c.self.inside.groups.items) = rw (← c.self.view_is) at c.requires in
    let listed = listed_at c.self.inside.sizes.items c.self.inside.groups.items c.self.inside.places.items c.args.at c.index.result.now inv.1 inv.0 low c.index.ensures in
    let is = group_is 0 c.self.inside.sizes.items c.self.inside.groups.items c.args.at c.index.result.now inv.2 inv.1 listed in
    rw (← c.self.view_is) (omega (arith, is))

pub returns-clause-few : goal.returns-clause-few
returns-clause-few c =
    let inv = c.self.invariant in
    let low : c.args.at < length (ids_in c.self.inside.sizes.items c.self.inside.groups.items) = rw (← c.self.view_is) at c.requires in
    let listed = listed_at c.self.inside.sizes.items c.self.inside.groups.items c.self.inside.places.items c.args.at c.index.result.now inv.1 inv.0 low c.index.ensures in
    let within = group_within c.self.inside.sizes.items c.args.at c.index.result.now c.self.inside.groups.items inv.1 listed in
    let all = all_begun c.self.inside.sizes.items c.self.inside.groups.items inv.2 inv.1 in
    rw (← c.self.view_is) (omega (arith, within, all, inv.1))
