-- A call on the link with an index, of all passes.
use Rattle.std.proofs.Common.{◌≡◌, ◌<◌, ◌∙◌, ap, refl, sym, subst, ℕ, List, length, set, Some}
use Rattle.std.specs.Prelude.{slice_index_or}
use Rattle.std.specs.List.{All, slice_get}
use Rattle.std.proofs.lemmas.List.{length-set}
use Rattle.std.proofs.lemmas.Option.{same_Some, slice_get_read, slice_get_within}
use Rattle.es_base.specs.declared.place.Net.{Net}
use Rattle.es_base.specs.Settings.{Settings}
use Rattle.es_base.proofs.Elements.{set_same}
use Rattle.link_lock.specs.Pass.{LockId}
use Rattle.network_calls.specs.Passes.{ArePasses, DoesAt}
use Rattle.network_calls.proofs.Rows.{IsSame, still_passes}
use Rattle.live_system.specs.declared.cut.LinkPlace.{LinkPlace}
use Rattle.live_system.specs.Calls.{LiveLink}
use Rattle.live_system.specs.Groups.{IsGroup, KnowsAt, ids_in, links_of_groups, under}
use Rattle.live_system.specs.Meetings.{VisitsAt}
use Rattle.live_system.specs.Pass.{KnownLink}
use Rattle.live_system.specs.System.{keeping_no_frame}
use Rattle.live_system.proofs.Cuts.{All-set, Here, all_at, group_set}

module _ (net : Net) (locks : List LockId) (groups : List (List KnownLink)) (at : ℕ) (place : LinkPlace) (its : Settings) (here : Here net locks groups at place its) where
  pub low_lock : place.group < length locks
  low_lock = slice_get_within locks place.group here.lock here.lock_there

  pub low_group : place.group < length groups
  low_group = slice_get_within groups place.group here.links here.group_there

  -- the lock and the passes of the link's group, as they are read
  module _ (lock : LockId) (lock_read : lock ≡ slice_index_or locks place.group lock) (group : List KnownLink) (group_read : group ≡ slice_index_or groups place.group group) where
    lock_is : here.lock ≡ lock
    lock_is = same_Some here.lock lock (sym here.lock_there ∙ slice_get_read locks (length locks) place.group lock refl low_lock lock_read)

    read_there : slice_get groups place.group ≡ Some group
    read_there = slice_get_read groups (length groups) place.group group refl low_group group_read

    group_is : here.links ≡ group
    group_is = same_Some here.links group (sym here.group_there ∙ read_there)

    pub pass_here : slice_get group place.index ≡ Some here.pass
    pass_here = ap (λ (links : List KnownLink). slice_get links place.index) (sym group_is) ∙ here.pass_there

    pub under_lock : here.pass.lock ≡ under lock place.index
    under_lock = here.at_lock ∙ ap (λ (l : LockId). under l place.index) lock_is

    pub knows : (Is : LiveLink → Type 0) (link : LiveLink) → here.pass.link ≡ Some link → Is link → KnowsAt group lock place.index Is
    knows Is link known is = (here.pass, pass_here, under_lock, link, known, is)

    -- nothing changed
    pub set_read : (new : List KnownLink) → new ≡ group → set groups place.group new ≡ groups
    set_read new same = set_same groups place.group group new read_there same

    -- a visit of the link
    pub visits_all : (did : LiveLink → LiveLink → Type 0) → VisitsAt group place.index did → VisitsAt (links_of_groups groups) at did
    visits_all did visits = (visits.0, here.of_all ∙ (sym pass_here ∙ visits.1), visits.2)

    -- after a call on the link
    module _ (Step : KnownLink → KnownLink → Type 0) (new : List KnownLink) (done : DoesAt Step group place.index new) where
      before_is : done.before ≡ here.pass
      before_is = same_Some done.before here.pass (sym done.there ∙ pass_here)

      only_all : links_of_groups (set groups place.group new) ≡ set (links_of_groups groups) at done.after
      only_all =
          ap (λ (links : List KnownLink). links_of_groups (set groups place.group links)) (done.only ∙ ap (λ (links : List KnownLink). set links place.index done.after) (sym group_is))
          ∙ here.written done.after

      there_all : slice_get (links_of_groups groups) at ≡ Some done.before
      there_all = here.of_all ∙ ap (λ (k : KnownLink). Some k) (sym before_is)

      pub does_all : DoesAt Step (links_of_groups groups) at (links_of_groups (set groups place.group new))
      does_all = record { before = done.before; after = done.after; there = there_all; does = done.does; only = only_all }

      pub as_long : length (links_of_groups (set groups place.group new)) ≡ length (links_of_groups groups)
      as_long = ap (λ (links : List KnownLink). length links) only_all ∙ length-set (links_of_groups groups) at done.after

      module _ (same : IsSame keeping_no_frame done.before done.after) where
        pub groups_after : All IsGroup groups → All IsGroup (set groups place.group new)
        groups_after are = All-set IsGroup groups place.group new are (subst IsGroup (sym done.only) (group_set group place.index done.before done.after (all_at IsGroup groups place.group group are read_there) done.there same.0))

        pub own_after : (sizes : List ℕ) (settings : List Settings) → ArePasses keeping_no_frame net (ids_in sizes locks) settings (links_of_groups groups) → ArePasses keeping_no_frame net (ids_in sizes locks) settings (links_of_groups (set groups place.group new))
        own_after sizes settings own =
            subst (ArePasses keeping_no_frame net (ids_in sizes locks) settings) (sym only_all) (still_passes keeping_no_frame net (ids_in sizes locks) settings (links_of_groups groups) at done.before done.after own there_all same)
