-- A visit of one link of a group.
use Rattle.std.proofs.Common.{◌≡◌, ◌⊎◌, ◌∙◌, ap, refl, sym, subst, zero, suc, ℕ, ◌+◌, ◌<◌, ◌≤◌, List, [], ◌∷◌, ◌++◌, drop, length, map, set, Option, Some, arith, append-nil, ⊎_elim, inl, inr}
use Rattle.std.specs.Prelude.{option_map}
use Rattle.std.specs.List.{slice_get}
use Rattle.std.proofs.lemmas.List.{drop_all, length-map, length-reverse, length-set}
use Rattle.std.proofs.lemmas.Option.{same_Some, slice_get-map, slice_get_within}
use Rattle.es_base.specs.declared.event.Event.{Event}
use Rattle.es_base.specs.declared.place.Net.{Net}
use Rattle.es_base.proofs.Elements.{map-set_same, slice_get-set_other, slice_get-set_same, there}
use Rattle.link_core.specs.Counted.{shown}
use Rattle.link_lock.specs.declared.user.User.{User}
use Rattle.link_lock.specs.declared.user.User.TheVariants.{First, Second}
use Rattle.link_lock.specs.Lists.{with_list}
use Rattle.link_lock.specs.Pass.{KnownPass, LockId, MayFind, MayLeave, Visited, with_list_of}
use Rattle.network_calls.specs.declared.call.Call.{Call}
use Rattle.network_calls.specs.declared.counts.LinkCounts.{LinkCounts}
use Rattle.network_calls.specs.Calls.{calls_from, net_of}
use Rattle.network_calls.specs.Counts.{AreCounts}
use Rattle.network_calls.specs.Passes.{DoesAt}
use Rattle.live_system.specs.Calls.{Agrees, LiveLink, as_opened, events_of, goes_on}
use Rattle.live_system.specs.Groups.{AgreeEach, GroupUser, IsOfGroup, KnowsAt, calls_at, go_on, known_links, opened_link_at, pass_at, under}
use Rattle.live_system.specs.Pass.{KnownLink, known_link}

-- ---- an element of a list that was written

pub same_or_other : (m n : ℕ) → (m ≡ n) ⊎ (m ≡ n → ⊥)
same_or_other zero zero = inl refl
same_or_other zero (suc n) = inr (λ e. omega (arith, e))
same_or_other (suc m) zero = inr (λ e. omega (arith, e))
same_or_other (suc m) (suc n) = ⊎_elim (λ (e : m ≡ n). inl (ap suc e)) (λ (ne : m ≡ n → ⊥). inr (λ e. ne (omega (arith, e)))) (same_or_other m n)

-- ---- the calls on each link of a group

-- no call more on a link that a visit leaves as it is
pub none_more : (user : User) (link : LiveLink) (list : List Call) → goes_on user link link list ≡ list
none_more user link list =
    ap (λ (es : List Event). list ++ calls_from (length link.core.past) (net_of user) es) (drop_all (length link.core.past) (events_of link) (omega (arith, length-reverse link.core.past)))
    ∙ append-nil list

rest_at : (lists : List (List Call)) (place : ℕ) → calls_at (drop 1 lists) place ≡ calls_at lists (suc place)
rest_at [] place = refl
rest_at (calls ∷ lists) place = refl

-- on each link they go on by what became of it
pub go_on_at : (user : User) (olds news : List LiveLink) (lists : List (List Call)) (place : ℕ) (old new : LiveLink) → slice_get olds place ≡ Some old → slice_get news place ≡ Some new
    → calls_at (go_on user olds news lists) place ≡ goes_on user old new (calls_at lists place)
go_on_at user [] news lists place old new was is = cc
go_on_at user (o ∷ olds) [] lists place old new was is = cc
go_on_at user (o ∷ olds) (n ∷ news) lists zero old new was is = rw (same_Some o old was, same_Some n new is) refl
go_on_at user (o ∷ olds) (n ∷ news) lists (suc place) old new was is =
    go_on_at user olds news (drop 1 lists) place old new was is ∙ ap (goes_on user old new) (rest_at lists place)

abbrev pub lists_at : (User → List (List Call)) → ℕ → User → List Call
lists_at lists place user = calls_at (lists user) place

stays_at : (lists : User → List (List Call)) (user n : User) (list : List (List Call)) (place : ℕ) → calls_at list place ≡ calls_at (lists user) place → calls_at (with_list lists user list n) place ≡ calls_at (lists n) place
stays_at lists First First list place same = same
stays_at lists First Second list place same = refl
stays_at lists Second First list place same = refl
stays_at lists Second Second list place same = same

here_at : (lists : User → List (List Call)) (user n : User) (list : List (List Call)) (calls : List Call) (place : ℕ) → calls_at list place ≡ calls
    → calls_at (with_list lists user list n) place ≡ with_list (lists_at lists place) user calls n
here_at lists First First list calls place same = same
here_at lists First Second list calls place same = refl
here_at lists Second First list calls place same = refl
here_at lists Second Second list calls place same = same

-- lists that say the same agree as well
pub agrees_as : (lists others : User → List Call) (link : LiveLink) → ((n : User) → others n ≡ lists n) → Agrees lists link → Agrees others link
agrees_as lists others link same is = record { ported = is.ported; calls = λ n. same n ∙ is.calls n }

-- ---- one link of the group that a pass finds

module _ (pass : GroupUser) (lists : User → List (List Call)) (found : List LiveLink) (finds : MayFind (map as_opened) AgreeEach pass lists found) (at : ℕ) (old : LiveLink) (was : slice_get found at ≡ Some old) where
  -- what the pass may find of the group it may find of the link
  pub link_found : MayFind as_opened Agrees (pass_at pass at) (lists_at lists at) old
  link_found = record {
    fixed = sym (ap (λ (links : Option (List LiveLink)). opened_link_at links at) (sym finds.fixed) ∙ (slice_get-map as_opened found at ∙ ap (λ (l : Option LiveLink). option_map as_opened l) was));
    own = ap (λ (list : List (List Call)). calls_at list at) finds.own;
    agrees = finds.agrees at old was;
  }

  module _ (new : LiveLink) where
    now_there : slice_get (set found at new) at ≡ Some new
    now_there = slice_get-set_same found at new (slice_get_within found at old was)

    -- the calls on this link go on, and those on the others stay
    pub gone_on_here : (user : User) (list : List (List Call)) → calls_at (go_on user found (set found at new) list) at ≡ goes_on user old new (calls_at list at)
    gone_on_here user list = go_on_at user found (set found at new) list at old new was now_there

    pub gone_on_there : (user : User) (list : List (List Call)) (place : ℕ) (link : LiveLink) → (place ≡ at → ⊥) → slice_get found place ≡ Some link → calls_at (go_on user found (set found at new) list) place ≡ calls_at list place
    gone_on_there user list place link other here =
        go_on_at user found (set found at new) list place link link here (slice_get-set_other found at place new other ∙ here) ∙ none_more user link (calls_at list place)

    -- what may be left of the link may be left of the group
    pub leaves_group : MayLeave as_opened Agrees goes_on (pass_at pass at) (lists_at lists at) old new → MayLeave (map as_opened) AgreeEach go_on pass lists found (set found at new)
    leaves_group leaves = record {
      fixed = map-set_same as_opened found at old new was leaves.fixed;
      agrees = λ place link is. ⊎_elim (λ (same : place ≡ at). here place link is same) (λ (other : place ≡ at → ⊥). elsewhere place link is other) (same_or_other place at);
    }
      where
        gone : List (List Call)
        gone = go_on pass.user found (set found at new) pass.list

        here : (place : ℕ) (link : LiveLink) → slice_get (set found at new) place ≡ Some link → place ≡ at → Agrees (λ user. calls_at (with_list lists pass.user gone user) place) link
        here place link is same =
            let there_now : slice_get (set found at new) at ≡ Some link = ap (slice_get (set found at new)) (sym same) ∙ is in
            let links : new ≡ link = same_Some new link (sym now_there ∙ there_now) in
            let agree : Agrees (λ user. calls_at (with_list lists pass.user gone user) at) new =
            agrees_as (with_list (lists_at lists at) pass.user (goes_on pass.user old new (calls_at pass.list at))) (λ user. calls_at (with_list lists pass.user gone user) at) new
            (λ n. here_at lists pass.user n gone (goes_on pass.user old new (calls_at pass.list at)) at (gone_on_here pass.user pass.list)) leaves.agrees in
            subst (λ (p : ℕ). Agrees (λ user. calls_at (with_list lists pass.user gone user) p) link) (sym same) (subst (Agrees (λ user. calls_at (with_list lists pass.user gone user) at)) links agree)

        elsewhere : (place : ℕ) (link : LiveLink) → slice_get (set found at new) place ≡ Some link → (place ≡ at → ⊥) → Agrees (λ user. calls_at (with_list lists pass.user gone user) place) link
        elsewhere place link is other =
            let was_there : slice_get found place ≡ Some link = sym (slice_get-set_other found at place new other) ∙ is in
            agrees_as (lists_at lists place) (λ user. calls_at (with_list lists pass.user gone user) place) link
            (λ n. stays_at lists pass.user n gone place (gone_on_there pass.user pass.list place link other was_there ∙ ap (λ (list : List (List Call)). calls_at list place) (sym finds.own))) (finds.agrees place link was_there)

-- what a visit may leave of the link at a place it may leave of the group
pub leaves_at : (pass : GroupUser) (lists : User → List (List Call)) (found left : List LiveLink) (at : ℕ) (Step : LiveLink → LiveLink → Type 0) → MayFind (map as_opened) AgreeEach pass lists found → (done : DoesAt Step found at left)
    → MayLeave as_opened Agrees goes_on (pass_at pass at) (lists_at lists at) done.before done.after → MayLeave (map as_opened) AgreeEach go_on pass lists found left
leaves_at pass lists found left at Step finds done leaves =
    subst (MayLeave (map as_opened) AgreeEach go_on pass lists found) (sym done.only) (leaves_group pass lists found finds at done.before done.there done.after leaves)

-- what was done with what the lock handed out was done with what was found
pub done_as : {shown found before left : List LiveLink} (D : List LiveLink → List LiveLink → Type 0) → shown ≡ found → before ≡ left → D shown before → D found left
done_as {shown} {found} {before} {left} D shows leaves done = subst (λ (links : List LiveLink). D links left) shows (subst (D shown) leaves done)

-- ---- a visit of one link of the group is a visit of the link

module _ (did : List LiveLink → List LiveLink → Type 0) (pass last : GroupUser) (visit : Visited (map as_opened) AgreeEach go_on did pass last) (at : ℕ) (Step : LiveLink → LiveLink → Type 0) (done : DoesAt Step visit.found at visit.left) where
  left_is : go_on pass.user visit.found visit.left pass.list ≡ go_on pass.user visit.found (set visit.found at done.after) pass.list
  left_is = ap (λ (links : List LiveLink). go_on pass.user visit.found links pass.list) done.only

  pub known_at : (place : ℕ) (calls : List Call) → calls_at (go_on pass.user visit.found (set visit.found at done.after) pass.list) place ≡ calls → pass_at last place ≡ with_list_of (pass_at pass place) calls
  known_at place calls is =
      ap (λ (p : GroupUser). pass_at p place) visit.knows
      ∙ ap (λ (list : List Call). with_list_of (pass_at pass place) list) (ap (λ (list : List (List Call)). calls_at list place) left_is ∙ is)

  abbrev pub of_link : Visited as_opened Agrees goes_on Step (pass_at pass at) (pass_at last at)
  of_link = record {
    lists = lists_at visit.lists at;
    found = done.before;
    left = done.after;
    finds = link_found pass visit.lists visit.found visit.finds at done.before done.there;
    does = done.does;
    knows = known_at at (goes_on pass.user done.before done.after (calls_at pass.list at)) (gone_on_here pass visit.lists visit.found visit.finds at done.before done.there done.after pass.user pass.list);
  }

  pub elsewhere : (place : ℕ) (link : LiveLink) → (place ≡ at → ⊥) → slice_get visit.found place ≡ Some link → pass_at last place ≡ pass_at pass place
  elsewhere place link other here = known_at place (calls_at pass.list place) (gone_on_there pass visit.lists visit.found visit.finds at done.before done.there done.after pass.user pass.list place link other here)

-- ---- what is known of each link

-- at a place
pub known_there : (net : Net) (pass : GroupUser) (place : ℕ) (counts : List LinkCounts) (at : ℕ) (c : LinkCounts) → slice_get counts at ≡ Some c → slice_get (known_links net pass place counts) at ≡ Some (known_link net (pass_at pass (place + at)) c)
known_there net pass place [] at c is = cc
known_there net pass place (x ∷ counts) zero c is =
    let z : place ≡ place + 0 = omega arith in
    ap (λ (p : ℕ). Some (known_link net (pass_at pass p) x)) z ∙ ap (λ (d : LinkCounts). Some (known_link net (pass_at pass (place + 0)) d)) (same_Some x c is)
known_there net pass place (x ∷ counts) (suc at) c is =
    let z : suc place + at ≡ place + suc at = omega arith in known_there net pass (suc place) counts at c is ∙ ap (λ (p : ℕ). Some (known_link net (pass_at pass p) c)) z

pub known_many : (net : Net) (pass : GroupUser) (place : ℕ) (counts : List LinkCounts) → length (known_links net pass place counts) ≡ length counts
known_many net pass place [] = refl
known_many net pass place (c ∷ counts) = ap suc (known_many net pass (suc place) counts)

-- passes that know the same of each link
pub known_same : (net : Net) (pass last : GroupUser) (place : ℕ) (counts : List LinkCounts) → ((p : ℕ) → place ≤ p → p < place + length counts → pass_at last p ≡ pass_at pass p) → known_links net last place counts ≡ known_links net pass place counts
known_same net pass last place [] same = refl
known_same net pass last place (c ∷ counts) same =
    ap (λ (p : KnownPass LiveLink (List Call)). known_link net p c ∷ known_links net last (suc place) counts) (same place (omega arith) (omega arith))
    ∙ ap (λ (links : List KnownLink). known_link net (pass_at pass place) c ∷ links) (known_same net pass last (suc place) counts (λ p low high. same p (omega (arith, low)) (omega (arith, high))))

-- one link's counts are others, and its pass knows more
pub known_set : (net : Net) (pass last : GroupUser) (place : ℕ) (counts : List LinkCounts) (at : ℕ) (new : LinkCounts) → at < length counts
    → ((p : ℕ) → (p ≡ place + at → ⊥) → p < place + length counts → pass_at last p ≡ pass_at pass p)
    → known_links net last place (set counts at new) ≡ set (known_links net pass place counts) at (known_link net (pass_at last (place + at)) new)
known_set net pass last place [] at new within same = absurd (omega (arith, within))
known_set net pass last place (c ∷ counts) zero new within same =
    let z : place ≡ place + 0 = omega arith in
    ap (λ (p : ℕ). known_link net (pass_at last p) new ∷ known_links net last (suc place) counts) z
    ∙ ap (λ (links : List KnownLink). known_link net (pass_at last (place + 0)) new ∷ links) (known_same net pass last (suc place) counts (λ p low high. same p (λ e. omega (arith, e, low)) (omega (arith, high))))
known_set net pass last place (c ∷ counts) (suc at) new within same =
    let z : suc place + at ≡ place + suc at = omega arith in
    let first : pass_at last place ≡ pass_at pass place = same place (λ e. omega (arith, e)) (omega arith) in
    ap (λ (p : KnownPass LiveLink (List Call)). known_link net p c ∷ known_links net last (suc place) (set counts at new)) first
    ∙ ap (λ (links : List KnownLink). known_link net (pass_at pass place) c ∷ links)
    (known_set net pass last (suc place) counts at new (omega (arith, within)) (λ p other high. same p (λ e. other (omega (arith, e))) (omega (arith, high)))
    ∙ ap (λ (p : ℕ). set (known_links net pass (suc place) counts) at (known_link net (pass_at last p) new)) z)

-- ---- the pass after a visit of one link

module _ (net : Net) (did : List LiveLink → List LiveLink → Type 0) (pass last : GroupUser) (visit : Visited (map as_opened) AgreeEach go_on did pass last) (at : ℕ) (Step : LiveLink → LiveLink → Type 0) (done : DoesAt Step visit.found at visit.left)
    (counts : List LinkCounts) (group : IsOfGroup net pass counts) where
  -- as many links as counts
  as_many_found : length visit.found ≡ length counts
  as_many_found =
      let same : map as_opened visit.found ≡ group.links = same_Some (map as_opened visit.found) group.links (visit.finds.fixed ∙ group.known) in
      sym (length-map visit.found as_opened) ∙ (ap (λ (links : List LiveLink). length links) same ∙ sym group.as_many)

  pub others_stay : (place : ℕ) → (place ≡ at → ⊥) → place < length counts → pass_at last place ≡ pass_at pass place
  others_stay place other within =
      let here = there visit.found place (omega (arith, within, as_many_found)) in
      elsewhere did pass last visit at Step done place here.0 other here.1

  -- no call more, so the counts are right still
  pub still_group_same : pass_at last at ≡ pass_at pass at → IsOfGroup net last counts
  still_group_same same_here = record {
    user = ap (λ (p : GroupUser). p.user) visit.knows ∙ group.user;
    links = group.links;
    known = ap (λ (p : GroupUser). p.fixed) visit.knows ∙ group.known;
    as_many = group.as_many;
    some = group.some;
    counted = λ place c is.
        let within = slice_get_within counts place c is in
        let same : pass_at last place ≡ pass_at pass place =
        ⊎_elim (λ (same : place ≡ at). ap (pass_at last) same ∙ (same_here ∙ ap (pass_at pass) (sym same))) (λ (other : place ≡ at → ⊥). others_stay place other within) (same_or_other place at) in
        subst (λ (list : List Call). AreCounts shown net list c) (sym (ap (λ (p : KnownPass LiveLink (List Call)). p.list) same)) (group.counted place c is);
  }

  module _ (old new : LinkCounts) (was : slice_get counts at ≡ Some old) where
    pub found_there : slice_get (known_links net pass 0 counts) at ≡ Some (known_link net (pass_at pass at) old)
    found_there = let z : 0 + at ≡ at = omega arith in known_there net pass 0 counts at old was ∙ ap (λ (p : ℕ). Some (known_link net (pass_at pass p) old)) z

    pub only_there : known_links net last 0 (set counts at new) ≡ set (known_links net pass 0 counts) at (known_link net (pass_at last at) new)
    only_there =
        let z : 0 + at ≡ at = omega arith in
        known_set net pass last 0 counts at new (slice_get_within counts at old was) (λ p other high. others_stay p (λ e. other (e ∙ sym z)) (omega (arith, high)))
        ∙ ap (λ (p : ℕ). set (known_links net pass 0 counts) at (known_link net (pass_at last p) new)) z

    pub still_group : AreCounts shown net (calls_at last.list at) new → IsOfGroup net last (set counts at new)
    still_group counted = record {
      user = ap (λ (p : GroupUser). p.user) visit.knows ∙ group.user;
      links = group.links;
      known = ap (λ (p : GroupUser). p.fixed) visit.knows ∙ group.known;
      as_many = length-set counts at new ∙ group.as_many;
      some = omega (arith, length-set counts at new, group.some);
      counted = λ place c is. ⊎_elim (λ (same : place ≡ at). here place c is same) (λ (other : place ≡ at → ⊥). others place c is other) (same_or_other place at);
    }
      where
        here : (place : ℕ) (c : LinkCounts) → slice_get (set counts at new) place ≡ Some c → place ≡ at → AreCounts shown net (calls_at last.list place) c
        here place c is same =
            let there_now : slice_get (set counts at new) at ≡ Some c = ap (slice_get (set counts at new)) (sym same) ∙ is in
            let counts_are : new ≡ c = same_Some new c (sym (slice_get-set_same counts at new (slice_get_within counts at old was)) ∙ there_now) in
            subst (λ (p : ℕ). AreCounts shown net (calls_at last.list p) c) (sym same) (subst (AreCounts shown net (calls_at last.list at)) counts_are counted)

        others : (place : ℕ) (c : LinkCounts) → slice_get (set counts at new) place ≡ Some c → (place ≡ at → ⊥) → AreCounts shown net (calls_at last.list place) c
        others place c is other =
            let was_there : slice_get counts place ≡ Some c = sym (slice_get-set_other counts at place new other) ∙ is in
            let calls : calls_at last.list place ≡ calls_at pass.list place = ap (λ (p : KnownPass LiveLink (List Call)). p.list) (others_stay place other (slice_get_within counts place c was_there)) in
            subst (λ (list : List Call). AreCounts shown net list c) (sym calls) (group.counted place c was_there)

-- ---- what a pass knows at a place, and what it finds there

module _ (net : Net) (pass : GroupUser) (counts : List LinkCounts) (lock : LockId) (at : ℕ) (Is : LiveLink → Type 0) (knows : KnowsAt (known_links net pass 0 counts) lock at Is) where
  within_counts : at < length counts
  within_counts = omega (arith, slice_get_within (known_links net pass 0 counts) at knows.0 knows.1, known_many net pass 0 counts)

  pub counts_there : (c : LinkCounts) × (slice_get counts at ≡ Some c)
  counts_there = there counts at within_counts

  pub is_known : knows.0 ≡ known_link net (pass_at pass at) counts_there.0
  is_known =
      let z : 0 + at ≡ at = omega arith in
      same_Some knows.0 (known_link net (pass_at pass at) counts_there.0) (sym knows.1 ∙ (known_there net pass 0 counts at counts_there.0 counts_there.1 ∙ ap (λ (p : ℕ). Some (known_link net (pass_at pass p) counts_there.0)) z))

  pub same_lock : pass.lock ≡ lock
  same_lock = names_one pass.lock lock (sym (ap (λ (k : KnownLink). k.lock) is_known) ∙ knows.2)
    where
      -- an id of a link names its lock
      names_one : (one other : LockId) → under one at ≡ under other at → one ≡ other
      names_one one other same = (λ i. record {
        words = (same i).words;
        slots = (same i).slots;
        views_name = (same i).views_name;
        atom = (same i).atom;
        block = (same i).block;
        offset = (same i).offset;
        slot_names = drop 1 (same i).slot_names;
      })

  pub link_known : opened_link_at pass.fixed at ≡ Some knows.3
  link_known = sym (ap (λ (k : KnownLink). k.link) is_known) ∙ knows.4

  pub finds_link : (lists : User → List (List Call)) (found : List LiveLink) → MayFind (map as_opened) AgreeEach pass lists found → (link : LiveLink) × (slice_get found at ≡ Some link) × (as_opened link ≡ knows.3)
  finds_link lists found finds =
      let known : slice_get (map as_opened found) at ≡ Some knows.3 = ap (λ (links : Option (List LiveLink)). opened_link_at links at) finds.fixed ∙ link_known in
      let low : at < length found = omega (arith, slice_get_within (map as_opened found) at knows.3 known, length-map found as_opened) in
      let here = there found at low in
      (here.0, here.1, same_Some (as_opened here.0) knows.3 (sym (slice_get-map as_opened found at ∙ ap (λ (l : Option LiveLink). option_map as_opened l) here.1) ∙ known))
