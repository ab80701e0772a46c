use Rattle.std.proofs.Common.{◌≡◌, ◌∙◌, ◌<◌, arith, length, refl, rules, sym, set}
use Rattle.std.specs.Prelude.{slice_index_or}
use Rattle.std.proofs.lemmas.Option.{slice_get_read, slice_get_within}
use Rattle.network_calls.specs.Passes.{System}
use Rattle.live_system.specs.Chunk.{ComeToGroup}
use Rattle.live_system.specs.Groups.{IsGroup, ids_in, links_of_groups}
use Rattle.live_system.specs.Rows.{CallsEach, index_at}
use Rattle.live_system.proofs.Cuts.{All-set, aligned, all_at, ids_are, number_within}
use Rattle.live_system.proofs.Ending.{as_many_links}
use Rattle.live_system.proofs.Entries.{no_entry}
use Rattle.live_system.proofs.OfGroup.{each_together, for_group}
use Rattle.live_system.proofs.RowRuns.{apart, are_in, group_each, here_for, knows_for, of_links, ran_each, standing}
use Rattle.live_system.proofs.system.LiveSystem.visit_row.Goals as goal

pub index-lock-requires : goal.index-lock-requires
index-lock-requires g c =
    let s = c.self.inside in
    let inv = c.self.invariant in
    let system : System = record { config = s.config; locks = ids_in s.sizes.items s.groups.items } in
    let own = rw (← c.self.view_is) at c.requires.own in
    let come : ComeToGroup system c.args.group c.args.row.now = rw (← c.self.view_is) at c.requires.group in
    let frames = for_group system s.sizes.items s.groups.items c.args.pass.now.net c.args.pass.now.links c.args.group refl inv.2 inv.1 own c.args.row.now come in
    let first = standing system s.sizes.items s.groups.items s.places.items c.args.pass.now.net c.args.pass.now.links c.args.group refl inv.2 inv.1 inv.0 own (slice_index_or c.args.row.now 0 no_entry) (frames 0 no_entry c.requires.some) in
    let within : c.args.group < length s.groups.items = omega (arith, number_within s.sizes.items c.args.group _ _ first.is_at, inv.1) in
    search rules

pub index_mut-requires : goal.index_mut-requires
index_mut-requires g c =
    let s = c.self.inside in
    let inv = c.self.invariant in
    let system : System = record { config = s.config; locks = ids_in s.sizes.items s.groups.items } in
    let own = rw (← c.self.view_is, ← c.pass.view_is) at c.requires.own in
    let come : ComeToGroup system c.args.group c.args.row.now = rw (← c.self.view_is) at c.requires.group in
    let frames = for_group system s.sizes.items s.groups.items c.pass.inside.net (links_of_groups c.pass.inside.groups.items) c.args.group refl inv.2 inv.1 own c.args.row.now come in
    let groups = c.pass.inside.groups.items in
    let h = here_for system s.sizes.items s.groups.items s.places.items c.pass.inside.net (links_of_groups groups) c.args.group refl inv.2 inv.1 inv.0 own groups refl (slice_index_or c.args.row.now 0 no_entry) (frames 0 no_entry c.requires.some) c.pass.invariant.4 in
    let within = slice_get_within groups c.args.group h.links h.group_there in
    search rules

pub receive_each-requires-clause-frames : goal.receive_each-requires-clause-frames
receive_each-requires-clause-frames g c = λ n d within.
    let s = c.self.inside in
    let inv = c.self.invariant in
    let system : System = record { config = s.config; locks = ids_in s.sizes.items s.groups.items } in
    let own = rw (← c.self.view_is, ← c.pass.view_is) at c.requires.own in
    let come : ComeToGroup system c.args.group c.args.row.now = rw (← c.self.view_is) at c.requires.group in
    let frames = for_group system s.sizes.items s.groups.items c.pass.inside.net (links_of_groups c.pass.inside.groups.items) c.args.group refl inv.2 inv.1 own c.args.row.now come in
    let groups = c.pass.inside.groups.items in
    rw c.deref.ensures.value
    (knows_for system s.sizes.items s.groups.items s.places.items c.pass.inside.net (links_of_groups groups) c.args.group refl inv.2 inv.1 inv.0 own groups refl (slice_index_or c.args.row.now n d) (frames n d within) c.pass.invariant.4 c.index-lock.result.now c.index-lock.ensures c.index_mut.result.now c.index_mut.ensures.value)

pub invariant_of-pass : goal.invariant_of-pass
invariant_of-pass g c =
    let s = c.self.inside in
    let inv = c.self.invariant in
    let system : System = record { config = s.config; locks = ids_in s.sizes.items s.groups.items } in
    let own = rw (← c.self.view_is, ← c.pass.view_is) at c.requires.own in
    let come : ComeToGroup system c.args.group c.args.row.now = rw (← c.self.view_is) at c.requires.group in
    let frames = for_group system s.sizes.items s.groups.items c.pass.inside.net (links_of_groups c.pass.inside.groups.items) c.args.group refl inv.2 inv.1 own c.args.row.now come in
    let groups = c.pass.inside.groups.items in
    let first = frames 0 no_entry c.requires.some in
    let h = here_for system s.sizes.items s.groups.items s.places.items c.pass.inside.net (links_of_groups groups) c.args.group refl inv.2 inv.1 inv.0 own groups refl (slice_index_or c.args.row.now 0 no_entry) first c.pass.invariant.4 in
    let olds = c.index_mut.result.now in
    let there = slice_get_read groups (length groups) c.args.group olds refl (slice_get_within groups c.args.group h.links h.group_there) c.index_mut.ensures.value in
    let cut = (aligned groups s.sizes.items s.groups.items c.pass.invariant.4 inv.2 inv.1 (ids_are c.pass.inside.net (ids_in s.sizes.items s.groups.items) s.config.links (links_of_groups groups) own)).0 in
    let calls : CallsEach (index_at s.places.items) olds c.args.row.now c.receive_each.new.replies c.receive_each.new.self = rw c.deref.ensures.value at c.receive_each.ensures.calls in
    let ran = ran_each system (index_at s.places.items) c.args.group s.sizes.items c.pass.inside.net c.pass.inside.filtered groups olds c.receive_each.new.self c.args.row.now c.receive_each.new.replies own cut there (are_in system s.sizes.items s.groups.items s.places.items c.pass.inside.net (links_of_groups groups) c.args.group refl inv.2 inv.1 inv.0 own c.args.row.now frames) calls in
    let ids = ids_in s.sizes.items s.groups.items in
    let long : length (links_of_groups (set groups c.args.group c.receive_each.new.self)) ≡ length (links_of_groups groups) =
    (as_many_links c.pass.inside.net ids s.config.links (links_of_groups (set groups c.args.group c.receive_each.new.self)) ran.1).0 ∙ sym (as_many_links c.pass.inside.net ids s.config.links (links_of_groups groups) own).0 in
    let still = All-set IsGroup groups c.args.group c.receive_each.new.self c.pass.invariant.4
    (group_each (index_at s.places.items) olds c.receive_each.new.self c.args.row.now c.receive_each.new.replies calls (all_at IsGroup groups c.args.group olds c.pass.invariant.4 there)) in
    let was = c.pass.invariant in
    (was.0, was.1, rw long was.2, (λ net. rw long (was.3 net)), still)

pub returns-clause-own : goal.returns-clause-own
returns-clause-own g c =
    let s = c.self.inside in
    let inv = c.self.invariant in
    let system : System = record { config = s.config; locks = ids_in s.sizes.items s.groups.items } in
    let own = rw (← c.self.view_is, ← c.pass.view_is) at c.requires.own in
    let come : ComeToGroup system c.args.group c.args.row.now = rw (← c.self.view_is) at c.requires.group in
    let frames = for_group system s.sizes.items s.groups.items c.pass.inside.net (links_of_groups c.pass.inside.groups.items) c.args.group refl inv.2 inv.1 own c.args.row.now come in
    let groups = c.pass.inside.groups.items in
    let first = frames 0 no_entry c.requires.some in
    let h = here_for system s.sizes.items s.groups.items s.places.items c.pass.inside.net (links_of_groups groups) c.args.group refl inv.2 inv.1 inv.0 own groups refl (slice_index_or c.args.row.now 0 no_entry) first c.pass.invariant.4 in
    let olds = c.index_mut.result.now in
    let there = slice_get_read groups (length groups) c.args.group olds refl (slice_get_within groups c.args.group h.links h.group_there) c.index_mut.ensures.value in
    let cut = (aligned groups s.sizes.items s.groups.items c.pass.invariant.4 inv.2 inv.1 (ids_are c.pass.inside.net (ids_in s.sizes.items s.groups.items) s.config.links (links_of_groups groups) own)).0 in
    let calls : CallsEach (index_at s.places.items) olds c.args.row.now c.receive_each.new.replies c.receive_each.new.self = rw c.deref.ensures.value at c.receive_each.ensures.calls in
    let ran = ran_each system (index_at s.places.items) c.args.group s.sizes.items c.pass.inside.net c.pass.inside.filtered groups olds c.receive_each.new.self c.args.row.now c.receive_each.new.replies own cut there (are_in system s.sizes.items s.groups.items s.places.items c.pass.inside.net (links_of_groups groups) c.args.group refl inv.2 inv.1 inv.0 own c.args.row.now frames) calls in
    rw (← c.self.view_is) ran.1

pub returns-clause-replies : goal.returns-clause-replies
returns-clause-replies g c =
    let s = c.self.inside in
    let inv = c.self.invariant in
    let system : System = record { config = s.config; locks = ids_in s.sizes.items s.groups.items } in
    let own = rw (← c.self.view_is, ← c.pass.view_is) at c.requires.own in
    let come : ComeToGroup system c.args.group c.args.row.now = rw (← c.self.view_is) at c.requires.group in
    let frames = for_group system s.sizes.items s.groups.items c.pass.inside.net (links_of_groups c.pass.inside.groups.items) c.args.group refl inv.2 inv.1 own c.args.row.now come in
    let groups = c.pass.inside.groups.items in
    let first = frames 0 no_entry c.requires.some in
    let h = here_for system s.sizes.items s.groups.items s.places.items c.pass.inside.net (links_of_groups groups) c.args.group refl inv.2 inv.1 inv.0 own groups refl (slice_index_or c.args.row.now 0 no_entry) first c.pass.invariant.4 in
    let olds = c.index_mut.result.now in
    let there = slice_get_read groups (length groups) c.args.group olds refl (slice_get_within groups c.args.group h.links h.group_there) c.index_mut.ensures.value in
    let cut = (aligned groups s.sizes.items s.groups.items c.pass.invariant.4 inv.2 inv.1 (ids_are c.pass.inside.net (ids_in s.sizes.items s.groups.items) s.config.links (links_of_groups groups) own)).0 in
    let calls : CallsEach (index_at s.places.items) olds c.args.row.now c.receive_each.new.replies c.receive_each.new.self = rw c.deref.ensures.value at c.receive_each.ensures.calls in
    let ran = ran_each system (index_at s.places.items) c.args.group s.sizes.items c.pass.inside.net c.pass.inside.filtered groups olds c.receive_each.new.self c.args.row.now c.receive_each.new.replies own cut there (are_in system s.sizes.items s.groups.items s.places.items c.pass.inside.net (links_of_groups groups) c.args.group refl inv.2 inv.1 inv.0 own c.args.row.now frames) calls in
    rw (← c.self.view_is, ← c.pass.view_is) ran.0

pub returns-clause-links : goal.returns-clause-links
returns-clause-links g c = of_links _ _ _ c.args.row.now c.receive_each.new.replies c.receive_each.ensures.calls

pub returns-clause-together : goal.returns-clause-together
returns-clause-together g c =
    let s = c.self.inside in
    let inv = c.self.invariant in
    let system : System = record { config = s.config; locks = ids_in s.sizes.items s.groups.items } in
    let own = rw (← c.self.view_is, ← c.pass.view_is) at c.requires.own in
    let come : ComeToGroup system c.args.group c.args.row.now = rw (← c.self.view_is) at c.requires.group in
    let frames = for_group system s.sizes.items s.groups.items c.pass.inside.net (links_of_groups c.pass.inside.groups.items) c.args.group refl inv.2 inv.1 own c.args.row.now come in
    let together = rw c.deref.ensures.value at c.receive_each.ensures.together in
    each_together c.args.row.now c.receive_each.new.replies
    (of_links _ _ _ c.args.row.now c.receive_each.new.replies c.receive_each.ensures.calls)
    (λ n d within.
    let e = slice_index_or c.args.row.now n d in
    let first = standing system s.sizes.items s.groups.items s.places.items c.pass.inside.net (links_of_groups c.pass.inside.groups.items) c.args.group refl inv.2 inv.1 inv.0 own e (frames n d within) in
    together n d within (apart system s.sizes.items s.groups.items s.places.items c.pass.inside.net (links_of_groups c.pass.inside.groups.items) c.args.group refl inv.2 inv.1 inv.0 own e.0 first.is_at c.args.row.now frames))
