-- Links in groups of neighbours, each group under one lock.
use Rattle.std.specs.Prelude.{◌≡◌, ◌⊎◌, ◌<◌, ◌+◌, ℕ, zero, suc, List, [], ◌∷◌, ◌++◌, Option, None, Some, drop, length, map, max, min, slice_get}
use Rattle.std.specs.List.{All, flat_map, sum_by}
use Rattle.es_base.specs.declared.place.Net.{Net}
use Rattle.es_base.specs.Settings.{Settings}
use Rattle.link_core.specs.Counted.{shown}
use Rattle.link_lock.specs.declared.user.User.{User}
use Rattle.link_lock.specs.Pass.{KnownPass, LockId}
use Rattle.network_calls.specs.declared.call.Call.{Call}
use Rattle.network_calls.specs.declared.counts.LinkCounts.{LinkCounts}
use Rattle.network_calls.specs.Calls.{count_calls, user_of}
use Rattle.network_calls.specs.Counts.{AreCounts}
use Rattle.network_calls.specs.Passes.{System}
use Rattle.live_system.specs.declared.cut.LinkPlace.{LinkPlace}
use Rattle.live_system.specs.Calls.{Agrees, LiveLink, goes_on}
use Rattle.live_system.specs.Pass.{IsSettled, KnownLink, known_link}

-- ---- a group under its lock

-- the calls of a network on the link at this place of a group, of its calls on each link; none beyond their end
abbrev pub calls_at : List (List Call) → ℕ → List Call
calls_at [] place = []
calls_at (calls ∷ more) zero = calls
calls_at (calls ∷ more) (suc place) = calls_at more place

-- a network whose pass did nothing on any link
abbrev pub no_calls_on_any : List (List Call)
no_calls_on_any = []

-- each link's past is a run, its ports were given what that delivers, and the calls of the two networks on the link are
-- those of its events
-- rule: CONC-9
abbrev pub AgreeEach : (User → List (List Call)) → List LiveLink → Type 0
AgreeEach lists links = (place : ℕ) (link : LiveLink) → slice_get links place ≡ Some link → Agrees (λ user. calls_at (lists user) place) link

-- what a network did on each link, after more came
abbrev pub go_on : User → List LiveLink → List LiveLink → List (List Call) → List (List Call)
go_on user [] news lists = []
go_on user (old ∷ olds) [] lists = []
go_on user (old ∷ olds) (new ∷ news) lists = goes_on user old new (calls_at lists 0) ∷ go_on user olds news (drop 1 lists)

-- ---- which link it is

-- A link's lock is that of its group. The id of the lock, with the link's place in the group before the names of its
-- slots, tells a link from all others, as the id of a lock alone tells the lock.
abbrev pub under : LockId → ℕ → LockId
under lock place = record lock { slot_names = place ∷ lock.slot_names }

-- the ids of so many links under a lock, from this place in their group on
abbrev pub ids_of : LockId → ℕ → ℕ → List LockId
ids_of lock place zero = []
ids_of lock place (suc more) = under lock place ∷ ids_of lock (suc place) more

-- the ids of the links of groups of these sizes, under these locks
abbrev pub ids_in : List ℕ → List LockId → List LockId
ids_in [] locks = []
ids_in (size ∷ sizes) [] = []
ids_in (size ∷ sizes) (lock ∷ locks) = ids_of lock 0 size ++ ids_in sizes locks

-- the places of so many links of a group, from this place in it on
abbrev pub places_of : ℕ → ℕ → ℕ → List LinkPlace
places_of group index zero = []
places_of group index (suc more) = record { group = group; index = index } ∷ places_of group (suc index) more

-- the places of the links of groups of these sizes, the first of which has this number
abbrev pub places_in : ℕ → List ℕ → List LinkPlace
places_in group [] = []
places_in group (size ∷ sizes) = places_of group 0 size ++ places_in (suc group) sizes

-- in groups of these sizes the link with the index `at` of all stands at this place of the group with this number
abbrev pub IsPlacedIn : List ℕ → ℕ → ℕ → ℕ → Type 0
IsPlacedIn [] group index at = ⊥
IsPlacedIn (size ∷ sizes) zero index at = (index ≡ at) × (index < size)
IsPlacedIn (size ∷ sizes) (suc group) index at = (before : ℕ) × (at ≡ size + before) × IsPlacedIn sizes group index before

-- where these are the ids of the links of a system, this link is of the group with this number
pub record IsInGroup (ids : List LockId) (group at : ℕ) : Type 0 where
  pub sizes : List ℕ
  pub some : All (λ size. 0 < size) sizes
  pub locks : List LockId
  pub one_each : length locks ≡ length sizes
  pub are : ids ≡ ids_in sizes locks
  pub index : ℕ
  pub there : IsPlacedIn sizes group index at

-- ---- how links are cut

-- Links are cut into as many groups as were asked for: 1 at least, and not more than there are links. Each has a link,
-- and none has two links more than another.
-- rule: CONC-1, EMB-29
pub record IsCut (links groups : ℕ) (sizes : List ℕ) : Type 0 where
  pub many : length sizes ≡ min links (max groups 1)
  pub all : sum_by (λ size. size) sizes ≡ links
  pub some : All (λ size. 0 < size) sizes
  pub even : (each : ℕ) × All (λ size. (size ≡ each) ⊎ (size ≡ each + 1)) sizes

-- The links of the system are cut into so many groups of neighbours. Those of a group have one lock.
-- rule: CONC-1, EMB-29
pub record AreInGroups (groups : ℕ) (system : System) : Type 0 where
  pub sizes : List ℕ
  pub cut : IsCut (length system.config.links) groups sizes
  pub locks : List LockId
  pub one_each : length locks ≡ length sizes
  pub ids : system.locks ≡ ids_in sizes locks

-- ---- a network's pass on a group

abbrev pub opened_link_at : Option (List LiveLink) → ℕ → Option LiveLink
opened_link_at None place = None
opened_link_at (Some links) place = slice_get links place

-- what a user's pass knows of a group
abbrev pub GroupUser : Type 0
GroupUser = KnownPass (List LiveLink) (List (List Call))

-- what it knows of the link at this place of the group
abbrev pub pass_at : GroupUser → ℕ → KnownPass LiveLink (List Call)
pass_at pass place = record { lock = under pass.lock place; user = pass.user; fixed = opened_link_at pass.fixed place; list = calls_at pass.list place }

-- what is known of each link with these counts, the first of which has this place in the group
abbrev pub known_links : Net → GroupUser → ℕ → List LinkCounts → List KnownLink
known_links net pass place [] = []
known_links net pass place (counts ∷ more) = known_link net (pass_at pass place) counts ∷ known_links net pass (suc place) more

-- a network's pass on a group has the counts of its calls on each link
pub record IsOfGroup (net : Net) (pass : GroupUser) (counts : List LinkCounts) : Type 0 where
  pub user : pass.user ≡ user_of net
  pub links : List LiveLink
  pub known : pass.fixed ≡ Some links
  pub as_many : length counts ≡ length links
  pub some : 0 < length counts
  pub counted : (place : ℕ) (c : LinkCounts) → slice_get counts place ≡ Some c → AreCounts shown net (calls_at pass.list place) c

-- passes on the links of a group, under one lock
pub record IsGroup (passes : List KnownLink) : Type 0 where
  pub lock : LockId
  pub some : 0 < length passes
  pub ids : map (λ pass. pass.lock) passes ≡ ids_of lock 0 (length passes)

-- the passes on all links, of those on the links of each group
abbrev pub links_of_groups : List (List KnownLink) → List KnownLink
links_of_groups groups = flat_map (λ group. group) groups

-- the pass on the link at this place of the group is under this lock, and knows such a link
abbrev pub KnowsAt : List KnownLink → LockId → ℕ → (LiveLink → Type 0) → Type 0
KnowsAt group lock place IsSuch = (pass : KnownLink) × (slice_get group place ≡ Some pass) × (pass.lock ≡ under lock place) × (link : LiveLink) × (pass.link ≡ Some link) × IsSuch link

-- such a link stands at this place of a group
abbrev pub HasLinkAt : List LiveLink → ℕ → (LiveLink → Type 0) → Type 0
HasLinkAt links place IsSuch = (link : LiveLink) × (slice_get links place ≡ Some link) × IsSuch link

-- whatever link it is
abbrev pub is_any : LiveLink → Type 0
is_any link = Unit {0}

-- what the counts of a link show of its calls, if there is such a link
abbrev pub calls_shown : Option KnownLink → Option ℕ
calls_shown None = None
calls_shown (Some pass) = Some (shown (length pass.calls))

abbrev pub count_shown : ℕ → Option KnownLink → Option ℕ
count_shown kind None = None
count_shown kind (Some pass) = Some (shown (count_calls kind pass.calls))

-- ---- the opening and the end

-- counts before the first call, on links with these settings
abbrev pub AreNewCounts : List Settings → List LinkCounts → Type 0
AreNewCounts [] [] = Unit {0}
AreNewCounts (settings ∷ links) (counts ∷ more) = ((counts.vl ≡ settings.vl) × ((net : Net) → AreCounts shown net [] counts)) × AreNewCounts links more
AreNewCounts (settings ∷ links) [] = ⊥
AreNewCounts [] (counts ∷ more) = ⊥

-- each link that both networks have let go of, whose passes are these
abbrev pub AreLetGo : List KnownLink → List KnownLink → List LiveLink → Type 0
AreLetGo [] [] [] = Unit {0}
AreLetGo (a ∷ ones) (b ∷ others) (link ∷ links) = IsSettled a.link a.calls b.calls link × AreLetGo ones others links
AreLetGo (a ∷ ones) (b ∷ others) [] = ⊥
AreLetGo (a ∷ ones) [] links = ⊥
AreLetGo [] (b ∷ others) links = ⊥
AreLetGo [] [] (link ∷ links) = ⊥
