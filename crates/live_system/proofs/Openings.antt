-- Groups that are opened, and the passes on them.
use Rattle.std.proofs.Common.{◌≡◌, ◌∙◌, ap, refl, sym, subst, zero, suc, ℕ, ◌+◌, ◌<◌, ◌≤◌, List, [], ◌∷◌, ◌++◌, append-nil, append_assoc, drop, length, map, reverse, take, Some, Option, arith}
use Rattle.std.specs.List.{slice_get, sum_by}
use Rattle.std.proofs.Math.Seq.{take-add}
use Rattle.std.proofs.lemmas.List.{length-drop, length-take-le}
use Rattle.std.proofs.lemmas.List.Sums.{sum_by-cons}
use Rattle.std.proofs.lemmas.Option.{same_Some}
use Rattle.es_base.specs.declared.event.Event.{Event}
use Rattle.es_base.specs.declared.place.Net.{Net}
use Rattle.es_base.specs.Port.{Port}
use Rattle.es_base.specs.Settings.{Settings}
use Rattle.link_core.specs.Counted.{shown}
use Rattle.link_lock.specs.declared.user.User.{User}
use Rattle.link_lock.specs.Pass.{LockId, known}
use Rattle.receiver.specs.declared.ends.LinkEnds.{LinkEnds}
use Rattle.receiver.specs.declared.partition.PartitionEnd.{PartitionEnd}
use Rattle.receiver.specs.Outlet.{reads_by}
use Rattle.receiver.specs.Port.{ReadsPort, ShowsPort}
use Rattle.receiver.specs.Receiver.{AreNewLinks}
use Rattle.network_calls.specs.declared.call.Call.{Call}
use Rattle.network_calls.specs.declared.counts.LinkCounts.{LinkCounts}
use Rattle.network_calls.specs.Calls.{calls_from, net_of, user_of}
use Rattle.network_calls.specs.Counts.{AreCounts}
use Rattle.network_calls.specs.Passes.{AreIdle, ArePasses}
use Rattle.live_system.specs.declared.cut.LinkPlace.{LinkPlace}
use Rattle.live_system.specs.Calls.{Agrees, LiveLink, as_opened}
use Rattle.live_system.specs.Groups.{AgreeEach, AreNewCounts, GroupUser, IsGroup, IsOfGroup, calls_at, ids_in, ids_of, links_of_groups, known_links, opened_link_at, no_calls_on_any, places_in, places_of, under}
use Rattle.live_system.specs.Pass.{KnownLink}
use Rattle.live_system.specs.System.{KnowLinks, keeping_no_frame}
use Rattle.live_system.proofs.Ending.{ids_push, joined_push}
use Rattle.live_system.proofs.Outlets.{new_link}

-- ---- how links are cut

pub places_of_push : (group index many : ℕ) → places_of group index (suc many) ≡ places_of group index many ++ record { group = group; index = index + many } ∷ []
places_of_push group index zero = ap (λ (i : ℕ). let p : LinkPlace = record { group = group; index = i } in p ∷ []) (let z : index ≡ index + 0 = omega arith in z)
places_of_push group index (suc many) =
    ap (λ (ps : List LinkPlace). record { group = group; index = index } ∷ ps)
    (places_of_push group (suc index) many ∙ ap (λ (i : ℕ). let p : LinkPlace = record { group = group; index = i } in places_of group (suc index) many ++ p ∷ []) (let z : suc index + many ≡ index + suc many = omega arith in z))

pub places_from_first : (group many : ℕ) → places_of group 0 (suc many) ≡ places_of group 0 many ++ record { group = group; index = many } ∷ []
places_from_first group many =
    places_of_push group 0 many ∙ ap (λ (i : ℕ). let p : LinkPlace = record { group = group; index = i } in places_of group 0 many ++ p ∷ []) (let z : 0 + many ≡ many = omega arith in z)

pub places_in_push : (first : ℕ) (sizes : List ℕ) (size : ℕ) → places_in first (sizes ++ size ∷ []) ≡ places_in first sizes ++ places_of (first + length sizes) 0 size
places_in_push first [] size = append-nil (places_of first 0 size) ∙ ap (λ (g : ℕ). places_of g 0 size) (let z : first ≡ first + 0 = omega arith in z)
places_in_push first (s ∷ sizes) size =
    ap (λ (ps : List LinkPlace). places_of first 0 s ++ ps) (places_in_push (suc first) sizes size ∙ ap (λ (g : ℕ). places_in (suc first) sizes ++ places_of g 0 size) (let z : suc first + length sizes ≡ first + suc (length sizes) = omega arith in z))
    ∙ sym (append_assoc (places_of first 0 s) (places_in (suc first) sizes) (places_of (first + suc (length sizes)) 0 size))

-- ---- new counts

pub counts_push : (links : List Settings) (counts : List LinkCounts) (settings : Settings) (new : LinkCounts) → AreNewCounts links counts → new.vl ≡ settings.vl → ((net : Net) → AreCounts shown net [] new) → AreNewCounts (links ++ settings ∷ []) (counts ++ new ∷ [])
counts_push [] [] settings new are vl none = ((vl, none), tt)
counts_push (s ∷ links) (c ∷ counts) settings new are vl none = (are.0, counts_push links counts settings new are.1 vl none)
counts_push (s ∷ links) [] settings new are vl none = absurd are
counts_push [] (c ∷ counts) settings new are vl none = absurd are

pub as_many_counts : (links : List Settings) (counts : List LinkCounts) → AreNewCounts links counts → length counts ≡ length links
as_many_counts [] [] are = refl
as_many_counts (s ∷ links) (c ∷ counts) are = ap suc (as_many_counts links counts are.1)
as_many_counts (s ∷ links) [] are = absurd are
as_many_counts [] (c ∷ counts) are = absurd are

pub new_count : (links : List Settings) (counts : List LinkCounts) (net : Net) (place : ℕ) (c : LinkCounts) → AreNewCounts links counts → slice_get counts place ≡ Some c → AreCounts shown net [] c
new_count [] [] net place c are is = cc
new_count (s ∷ links) (x ∷ counts) net zero c are is = subst (AreCounts shown net []) (same_Some x c is) (are.0.1 net)
new_count (s ∷ links) (x ∷ counts) net (suc place) c are is = new_count links counts net place c are.1 is
new_count (s ∷ links) [] net place c are is = absurd are
new_count [] (x ∷ counts) net place c are is = absurd are

-- a new pass has the counts of its calls
pub is_new_group : (net : Net) (pass : GroupUser) (counts : List LinkCounts) (settings : List Settings) (links : List LiveLink) → pass.user ≡ user_of net → pass.list ≡ no_calls_on_any → pass.fixed ≡ Some links → length settings ≡ length links → AreNewCounts settings counts
    → 0 < length counts → IsOfGroup net pass counts
is_new_group net pass counts settings links user list known many are some = record {
  user = user;
  links = links;
  known = known;
  as_many = as_many_counts settings counts are ∙ many;
  some = some;
  counted = λ place c is. subst (λ (ls : List (List Call)). AreCounts shown net (calls_at ls place) c) (sym list) (new_count settings counts net place c are is);
}

-- ---- new links

module _ (readers : Port → ℕ) where
  abbrev New : List Settings → List LiveLink → List (LinkEnds PartitionEnd) → Type 0
  New settings links ends = AreNewLinks ShowsPort (reads_by ReadsPort readers) settings links ends

  pub agree_new : (settings : List Settings) (links : List LiveLink) (ends : List (LinkEnds PartitionEnd)) → New settings links ends → AgreeEach (λ user. no_calls_on_any) links
  agree_new [] [] [] new place link is = cc
  agree_new (s ∷ settings) (l ∷ links) (e ∷ ends) new zero link is =
      subst (Agrees (λ user. [])) (same_Some l link is) (record {
        ported = new.0.0.ported;
        calls = λ user. sym (ap (λ (es : List Event). calls_from 0 (net_of user) (reverse es)) new.0.0.nothing);
      })
  agree_new (s ∷ settings) (l ∷ links) (e ∷ ends) new (suc place) link is = agree_new settings links ends new.1 place link is
  agree_new (s ∷ settings) (l ∷ links) [] new place link is = absurd new
  agree_new (s ∷ settings) [] ends new place link is = absurd new
  agree_new [] (l ∷ links) ends new place link is = absurd new
  agree_new [] [] (e ∷ ends) new place link is = absurd new

  pub opened_new : (settings : List Settings) (links : List LiveLink) (ends : List (LinkEnds PartitionEnd)) → New settings links ends → (map as_opened links ≡ links) × (map (λ (l : LiveLink). l.core.settings) links ≡ settings)
  opened_new [] [] [] new = (refl, refl)
  opened_new (s ∷ settings) (l ∷ links) (e ∷ ends) new =
      let later = opened_new settings links ends new.1 in
      let first : as_opened l ≡ l = new_link readers s l e.ports.items new.0.0 in
      ((λ i. first i ∷ later.0 i), (λ i. new.0.0.with_settings i ∷ later.1 i))
  opened_new (s ∷ settings) (l ∷ links) [] new = absurd new
  opened_new (s ∷ settings) [] ends new = absurd new
  opened_new [] (l ∷ links) ends new = absurd new
  opened_new [] [] (e ∷ ends) new = absurd new

  pub new_append : (s1 s2 : List Settings) (l1 l2 : List LiveLink) (e1 e2 : List (LinkEnds PartitionEnd)) → New s1 l1 e1 → New s2 l2 e2 → New (s1 ++ s2) (l1 ++ l2) (e1 ++ e2)
  new_append [] s2 [] l2 [] e2 one two = two
  new_append (s ∷ s1) s2 (l ∷ l1) l2 (e ∷ e1) e2 one two = (one.0, new_append s1 s2 l1 l2 e1 e2 one.1 two)
  new_append (s ∷ s1) s2 (l ∷ l1) l2 [] e2 one two = absurd one
  new_append (s ∷ s1) s2 [] l2 e1 e2 one two = absurd one
  new_append [] s2 (l ∷ l1) l2 e1 e2 one two = absurd one
  new_append [] s2 [] l2 (e ∷ e1) e2 one two = absurd one

-- ---- passes on a new group

pub record NewPasses (net : Net) (lock : LockId) (place : ℕ) (settings : List Settings) (links : List LiveLink) (passes : List KnownLink) : Type 0 where
  pub are : ArePasses keeping_no_frame net (ids_of lock place (length settings)) settings passes
  pub idle : AreIdle keeping_no_frame passes
  pub know : KnowLinks passes links
  pub locks : map (λ (k : KnownLink). k.lock) passes ≡ ids_of lock place (length passes)

pub new_passes : (net : Net) (pass : GroupUser) (place : ℕ) (settings : List Settings) (links : List LiveLink) (counts : List LinkCounts) → pass.list ≡ no_calls_on_any → ((i : ℕ) (l : LiveLink) → slice_get links i ≡ Some l → opened_link_at pass.fixed (place + i) ≡ Some l)
    → map (λ (l : LiveLink). l.core.settings) links ≡ settings → AreNewCounts settings counts → NewPasses net pass.lock place settings links (known_links net pass place counts)
new_passes net pass place [] [] [] list known with_settings are = record { are = tt; idle = tt; know = tt; locks = refl }
new_passes net pass place (s ∷ settings) (l ∷ links) (c ∷ counts) list known with_settings are =
    let first : opened_link_at pass.fixed place ≡ Some l = ap (opened_link_at pass.fixed) (let z : place ≡ place + 0 = omega arith in z) ∙ known 0 l refl in
    let its : l.core.settings ≡ s = same_Some l.core.settings s (ap (λ (ss : List Settings). slice_get ss 0) with_settings) in
    let later = new_passes net pass (suc place) settings links counts list
    (λ i x is. ap (opened_link_at pass.fixed) (let z : suc place + i ≡ place + suc i = omega arith in z) ∙ known (suc i) x is)
    (ap (λ (ss : List Settings). drop 1 ss) with_settings) are.1 in
    record {
      are = (record { at_lock = refl; of_net = refl; link = l; known = first; with_settings = its; with_number = are.0.0 }, later.are);
      idle = (ap (λ (ls : List (List Call)). calls_at ls place) list, later.idle);
      know = (first, later.know);
      locks = ap (λ (ids : List LockId). under pass.lock place ∷ ids) later.locks;
    }
new_passes net pass place [] (l ∷ links) counts list known with_settings are = cc
new_passes net pass place (s ∷ settings) [] counts list known with_settings are = cc
new_passes net pass place [] [] (c ∷ counts) list known with_settings are = absurd are
new_passes net pass place (s ∷ settings) (l ∷ links) [] list known with_settings are = absurd are

-- ---- one group after the others

pub passes_append : (net : Net) (i1 i2 : List LockId) (s1 s2 : List Settings) (p1 p2 : List KnownLink) → ArePasses keeping_no_frame net i1 s1 p1 → ArePasses keeping_no_frame net i2 s2 p2 → ArePasses keeping_no_frame net (i1 ++ i2) (s1 ++ s2) (p1 ++ p2)
passes_append net [] i2 [] s2 [] p2 one two = two
passes_append net (i ∷ i1) i2 (s ∷ s1) s2 (p ∷ p1) p2 one two = (one.0, passes_append net i1 i2 s1 s2 p1 p2 one.1 two)
passes_append net (i ∷ i1) i2 (s ∷ s1) s2 [] p2 one two = absurd one
passes_append net (i ∷ i1) i2 [] s2 p1 p2 one two = absurd one
passes_append net [] i2 (s ∷ s1) s2 p1 p2 one two = absurd one
passes_append net [] i2 [] s2 (p ∷ p1) p2 one two = absurd one

pub idle_append : (p1 p2 : List KnownLink) → AreIdle keeping_no_frame p1 → AreIdle keeping_no_frame p2 → AreIdle keeping_no_frame (p1 ++ p2)
idle_append [] p2 one two = two
idle_append (p ∷ p1) p2 one two = (one.0, idle_append p1 p2 one.1 two)

pub know_append : (p1 p2 : List KnownLink) (l1 l2 : List LiveLink) → KnowLinks p1 l1 → KnowLinks p2 l2 → KnowLinks (p1 ++ p2) (l1 ++ l2)
know_append [] p2 [] l2 one two = two
know_append (p ∷ p1) p2 (l ∷ l1) l2 one two = (one.0, know_append p1 p2 l1 l2 one.1 two)
know_append (p ∷ p1) p2 [] l2 one two = absurd one
know_append [] p2 (l ∷ l1) l2 one two = absurd one

-- ---- a group that was opened

pub opened_passes : (readers : Port → ℕ) (net : Net) (lock : LockId) (user : User) (pass : GroupUser) (settings : List Settings) (links : List LiveLink) (ends : List (LinkEnds PartitionEnd)) (counts : List LinkCounts) → pass ≡ known lock user (map as_opened links) no_calls_on_any
    → New readers settings links ends → AreNewCounts settings counts → NewPasses net lock 0 settings links (known_links net pass 0 counts)
opened_passes readers net lock user pass settings links ends counts is new are =
    let opened = opened_new readers settings links ends new in
    let fixed : pass.fixed ≡ Some links = ap (λ (p : GroupUser). p.fixed) is ∙ ap (λ (ls : List LiveLink). Some ls) opened.0 in
    subst (λ (l : LockId). NewPasses net l 0 settings links (known_links net pass 0 counts)) (ap (λ (p : GroupUser). p.lock) is)
    (new_passes net pass 0 settings links counts (ap (λ (p : GroupUser). p.list) is)
    (λ i l there. ap (λ (f : Option (List LiveLink)). opened_link_at f (0 + i)) fixed ∙ (ap (slice_get links) (let z : 0 + i ≡ i = omega arith in z) ∙ there)) opened.1 are)

pub is_opened : (net : Net) (lock : LockId) (settings : List Settings) (links : List LiveLink) (passes : List KnownLink) → NewPasses net lock 0 settings links passes → 0 < length passes → IsGroup passes
is_opened net lock settings links passes new some = record { lock = lock; some = some; ids = new.locks }

-- ---- sizes

pub sum_take : (sizes : List ℕ) (n : ℕ) → sum_by (λ size. size) (take n sizes) ≤ sum_by (λ size. size) sizes
sum_take [] zero = omega arith
sum_take [] (suc n) = omega arith
sum_take (size ∷ sizes) zero = omega arith
sum_take (size ∷ sizes) (suc n) = let later = sum_take sizes n in omega (arith, later, sum_by-cons (λ m. m) size (take n sizes), sum_by-cons (λ m. m) size sizes)

-- ---- one group more

module _ (links : List Settings) (first size k : ℕ) (is : k ≡ size) (within : first + size ≤ length links) where
  here_many : length (take k (drop first links)) ≡ size
  here_many = length-take-le k (drop first links) (omega (arith, is, within, length-drop first links)) ∙ is

  longer_links : take (first + size) links ≡ take first links ++ take k (drop first links)
  longer_links = take-add first size links ∙ ap (λ (n : ℕ). take first links ++ take n (drop first links)) (sym is)

  pub passes_more : (net : Net) (sizes : List ℕ) (locks : List LockId) (lock : LockId) (groups : List (List KnownLink)) (group : List KnownLink) → length locks ≡ length sizes
      → ArePasses keeping_no_frame net (ids_in sizes locks) (take first links) (links_of_groups groups) → ArePasses keeping_no_frame net (ids_of lock 0 (length (take k (drop first links)))) (take k (drop first links)) group
      → ArePasses keeping_no_frame net (ids_in (sizes ++ size ∷ []) (locks ++ lock ∷ [])) (take (first + size) links) (links_of_groups (groups ++ group ∷ []))
  passes_more net sizes locks lock groups group many one two =
      rw (ids_push sizes locks size lock many, joined_push groups group, longer_links)
      (passes_append net (ids_in sizes locks) (ids_of lock 0 size) (take first links) (take k (drop first links)) (links_of_groups groups) group one (rw here_many at two))

  pub links_more : (readers : Port → ℕ) (opened new : List LiveLink) (ends more after : List (LinkEnds PartitionEnd)) → after ≡ ends ++ more → New readers (take first links) opened ends → New readers (take k (drop first links)) new more
      → New readers (take (first + size) links) (opened ++ new) after
  links_more readers opened new ends more after are one two = rw (are, longer_links) (new_append readers (take first links) (take k (drop first links)) opened new ends more one two)

pub idle_more : (groups : List (List KnownLink)) (group : List KnownLink) → AreIdle keeping_no_frame (links_of_groups groups) → AreIdle keeping_no_frame group → AreIdle keeping_no_frame (links_of_groups (groups ++ group ∷ []))
idle_more groups group one two = rw (joined_push groups group) (idle_append (links_of_groups groups) group one two)

pub know_more : (groups : List (List KnownLink)) (group : List KnownLink) (links more : List LiveLink) → KnowLinks (links_of_groups groups) links → KnowLinks group more → KnowLinks (links_of_groups (groups ++ group ∷ [])) (links ++ more)
know_more groups group links more one two = rw (joined_push groups group) (know_append (links_of_groups groups) group links more one two)
