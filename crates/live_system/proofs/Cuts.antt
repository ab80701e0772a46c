-- Groups of links, and which link stands where in them.
use Rattle.std.proofs.Common.{◌≡◌, ◌⊎◌, ◌∙◌, ap, refl, sym, subst, zero, suc, ℕ, ◌+◌, ◌<◌, ◌≤◌, List, [], ◌∷◌, ◌++◌, drop, length, length-append, map, set, Option, Some, arith, ⊎_elim, inl, inr}
use Rattle.std.specs.Prelude.{option_map, slice_index_or}
use Rattle.std.specs.List.{All, slice_get}
use Rattle.std.proofs.lemmas.List.{length-set, map-append}
use Rattle.std.proofs.lemmas.List.Elements.{All-cons, All-head, All-tail}
use Rattle.std.proofs.lemmas.Option.{same_Some, slice_get-map, slice_get_read}
use Rattle.es_base.specs.declared.place.Net.{Net}
use Rattle.es_base.specs.Settings.{Settings}
use Rattle.es_base.proofs.Elements.{map-set_same}
use Rattle.link_lock.specs.Pass.{LockId}
use Rattle.network_calls.specs.Passes.{ArePasses, IsPassOn}
use Rattle.network_calls.proofs.Rows.{at_place}
use Rattle.live_system.specs.declared.cut.LinkPlace.{LinkPlace}
use Rattle.live_system.specs.Groups.{IsPlacedIn, IsGroup, IsInGroup, ids_in, ids_of, links_of_groups, places_in, places_of, under}
use Rattle.live_system.specs.Pass.{KnownLink}
use Rattle.live_system.specs.System.{keeping_no_frame}

-- ---- two lists, one after the other

get_first : {X : Type 0} (xs ys : List X) (i : ℕ) → i < length xs → slice_get (xs ++ ys) i ≡ slice_get xs i
get_first [] ys i low = absurd (omega (arith, low))
get_first (x ∷ xs) ys zero low = refl
get_first (x ∷ xs) ys (suc i) low = get_first xs ys i (omega (arith, low))

get_later : {X : Type 0} (xs ys : List X) (i at : ℕ) → at ≡ length xs + i → slice_get (xs ++ ys) at ≡ slice_get ys i
get_later [] ys i at is = ap (slice_get ys) (let e : at ≡ i = omega (arith, is) in e)
get_later (x ∷ xs) ys i zero is = absurd (omega (arith, is))
get_later (x ∷ xs) ys i (suc at) is = get_later xs ys i at (omega (arith, is))

set_first : {X : Type 0} (xs ys : List X) (i : ℕ) (x : X) → i < length xs → set xs i x ++ ys ≡ set (xs ++ ys) i x
set_first [] ys i x low = absurd (omega (arith, low))
set_first (y ∷ xs) ys zero x low = refl
set_first (y ∷ xs) ys (suc i) x low = ap (λ zs. y ∷ zs) (set_first xs ys i x (omega (arith, low)))

set_later : {X : Type 0} (xs ys : List X) (i at : ℕ) (x : X) → at ≡ length xs + i → xs ++ set ys i x ≡ set (xs ++ ys) at x
set_later [] ys i at x is = ap (λ (k : ℕ). set ys k x) (let e : i ≡ at = omega (arith, is) in e)
set_later (y ∷ xs) ys i zero x is = absurd (omega (arith, is))
set_later (y ∷ xs) ys i (suc at) x is = ap (λ zs. y ∷ zs) (set_later xs ys i at x (omega (arith, is)))

get_parts : {X : Type 0} (xs ys : List X) (at : ℕ) (y : X) → slice_get (xs ++ ys) at ≡ Some y
    → ((at < length xs) × (slice_get xs at ≡ Some y)) ⊎ ((later : ℕ) × (at ≡ length xs + later) × (slice_get ys later ≡ Some y))
get_parts [] ys at y is = inr (at, omega arith, is)
get_parts (x ∷ xs) ys zero y is = inl (omega arith, is)
get_parts {X} (x ∷ xs) ys (suc at) y is =
    ⊎_elim (λ (h : (at < length xs) × (slice_get xs at ≡ Some y)). inl (omega (arith, h.0), h.1))
    (λ (h : (later : ℕ) × (at ≡ length xs + later) × (slice_get ys later ≡ Some y)). inr (h.0, omega (arith, h.1), h.2)) (get_parts xs ys at y is)

same_head : {X : Type 0} (x y : X) (xs ys : List X) → x ∷ xs ≡ y ∷ ys → x ≡ y
same_head {X} x y xs ys same = same_Some x y (ap (λ (zs : List X). slice_get zs 0) same)

same_tail : {X : Type 0} (x y : X) (xs ys : List X) → x ∷ xs ≡ y ∷ ys → xs ≡ ys
same_tail {X} x y xs ys same = ap (λ (zs : List X). drop 1 zs) same

-- ---- where a link stands

length-places : (group index many : ℕ) → length (places_of group index many) ≡ many
length-places group index zero = refl
length-places group index (suc many) = ap suc (length-places group (suc index) many)

in_group : (group index many at : ℕ) (p : LinkPlace) → slice_get (places_of group index many) at ≡ Some p → (p.group ≡ group) × (p.index ≡ index + at) × (at < many)
in_group group index zero at p is = cc
in_group group index (suc many) zero p is =
    let same = same_Some _ p is in (sym (ap (λ (q : LinkPlace). q.group) same), sym (ap (λ (q : LinkPlace). q.index) same) ∙ (let z : index ≡ index + 0 = omega arith in z), omega arith)
in_group group index (suc many) (suc at) p is =
    let later = in_group group (suc index) many at p is in (later.0, later.1 ∙ (let z : suc index + at ≡ index + suc at = omega arith in z), omega (arith, later.2))

pub in_table : (first : ℕ) (sizes : List ℕ) (at : ℕ) (p : LinkPlace) → slice_get (places_in first sizes) at ≡ Some p → (group : ℕ) × (p.group ≡ first + group) × IsPlacedIn sizes group p.index at
in_table first [] at p is = cc
in_table first (size ∷ sizes) at p is =
    ⊎_elim (λ (h : (at < length (places_of first 0 size)) × (slice_get (places_of first 0 size) at ≡ Some p)).
    let here = in_group first 0 size at p h.1 in
    let index : p.index ≡ at = omega (arith, here.1) in
    (0, omega (arith, here.0), (index, omega (arith, index, here.2))))
    (λ (h : (later : ℕ) × (at ≡ length (places_of first 0 size) + later) × (slice_get (places_in (suc first) sizes) later ≡ Some p)).
    let later = in_table (suc first) sizes h.0 p h.2 in
    (suc later.0, omega (arith, later.1), (h.0, omega (arith, h.1, length-places first 0 size), later.2))) (get_parts (places_of first 0 size) (places_in (suc first) sizes) at p is)

length-ids : (lock : LockId) (place many : ℕ) → length (ids_of lock place many) ≡ many
length-ids lock place zero = refl
length-ids lock place (suc many) = ap suc (length-ids lock (suc place) many)

-- each link stands somewhere
pub as_many_places : (first : ℕ) (sizes : List ℕ) (locks : List LockId) → length locks ≡ length sizes → length (places_in first sizes) ≡ length (ids_in sizes locks)
as_many_places first [] locks same = refl
as_many_places first (size ∷ sizes) [] same = absurd (omega (arith, same))
as_many_places first (size ∷ sizes) (lock ∷ locks) same =
    let later = as_many_places (suc first) sizes locks (omega (arith, same)) in
    omega (arith, later, length-append (places_of first 0 size) (places_in (suc first) sizes), length-append (ids_of lock 0 size) (ids_in sizes locks), length-places first 0 size, length-ids lock 0 size)

-- ---- the passes of a group among all

pub record Reached (groups : List (List KnownLink)) (group index at : ℕ) : Type 0 where
  pub links : List KnownLink
  pub there : slice_get groups group ≡ Some links
  pub within : index < length links
  pub same : slice_get (links_of_groups groups) at ≡ slice_get links index
  pub written : (new : KnownLink) → links_of_groups (set groups group (set links index new)) ≡ set (links_of_groups groups) at new

pub reached : (groups : List (List KnownLink)) (group index at : ℕ) → IsPlacedIn (map (λ links. length links) groups) group index at → Reached groups group index at
reached [] group index at is = absurd is
reached (links ∷ groups) zero index at is = record {
  links = links;
  there = refl;
  within = is.1;
  same = ap (slice_get (links ++ links_of_groups groups)) (sym is.0) ∙ get_first links (links_of_groups groups) index is.1;
  written = λ new. set_first links (links_of_groups groups) index new is.1 ∙ ap (λ (k : ℕ). set (links ++ links_of_groups groups) k new) is.0;
}
reached (links ∷ groups) (suc group) index at is =
    let later = reached groups group index is.0 is.2 in
    record {
      links = later.links;
      there = later.there;
      within = later.within;
      same = get_later links (links_of_groups groups) is.0 at is.1 ∙ later.same;
      written = λ new. ap (λ (ls : List KnownLink). links ++ ls) (later.written new) ∙ set_later links (links_of_groups groups) is.0 at new is.1;
    }

-- ---- the cut is known by the ids of the links

id_there : (lock : LockId) (place many at : ℕ) → at < many → slice_get (ids_of lock place many) at ≡ Some (under lock (place + at))
id_there lock place zero at low = absurd (omega (arith, low))
id_there lock place (suc many) zero low = ap (λ (p : ℕ). Some (under lock p)) (let z : place ≡ place + 0 = omega arith in z)
id_there lock place (suc many) (suc at) low = id_there lock (suc place) many at (omega (arith, low)) ∙ ap (λ (p : ℕ). Some (under lock p)) (let z : suc place + at ≡ place + suc at = omega arith in z)

-- ids that begin with that of the first link of a group, if there are any
abbrev StartsGroup : List LockId → Type 0
StartsGroup [] = Unit {0}
StartsGroup (id ∷ ids) = (lock : LockId) × (id ≡ under lock 0)

not_first : (place : ℕ) (one other : LockId) → under one 0 ≡ under other (suc place) → ⊥
not_first place one other same =
    let e : 0 ≡ suc place = same_Some 0 (suc place) (ap (λ (id : LockId). slice_get id.slot_names 0) same) in omega (arith, e)

pub names_one : (place : ℕ) (one other : LockId) → under one place ≡ under other place → one ≡ other
names_one place one other same = (λ i. record {
  words = (same i).words;
  slots = (same i).slots;
  views_name = (same i).views_name;
  atom = (same i).atom;
  block = (same i).block;
  offset = (same i).offset;
  slot_names = drop 1 (same i).slot_names;
})

peel : (place m n : ℕ) (one other : LockId) (xs ys : List LockId) → StartsGroup xs → StartsGroup ys → ids_of one (suc place) m ++ xs ≡ ids_of other (suc place) n ++ ys → (m ≡ n) × (xs ≡ ys)
peel place zero zero one other xs ys sx sy same = (refl, same)
peel place zero (suc n) one other [] ys sx sy same = cc
peel place zero (suc n) one other (x ∷ xs) ys sx sy same = absurd (not_first place sx.0 other (sym sx.1 ∙ same_head x (under other (suc place)) xs _ same))
peel place (suc m) zero one other xs [] sx sy same = cc
peel place (suc m) zero one other xs (y ∷ ys) sx sy same = absurd (not_first place sy.0 one (sym sy.1 ∙ sym (same_head (under one (suc place)) y _ ys same)))
peel place (suc m) (suc n) one other xs ys sx sy same =
    let later = peel (suc place) m n one other xs ys sx sy (same_tail (under one (suc place)) (under other (suc place)) _ _ same) in
    (ap suc later.0, later.1)

abbrev pub locks_of : List KnownLink → List LockId
locks_of links = map (λ (k : KnownLink). k.lock) links

starts_joined : (groups : List (List KnownLink)) → All IsGroup groups → StartsGroup (locks_of (links_of_groups groups))
starts_joined [] are = tt
starts_joined ([] ∷ groups) are = let some = (All-head IsGroup [] groups are).some in absurd (omega (arith, some))
starts_joined ((k ∷ links) ∷ groups) are = let is = All-head IsGroup (k ∷ links) groups are in (is.lock, same_head k.lock (under is.lock 0) _ _ is.ids)

starts_ids : (sizes : List ℕ) (locks : List LockId) → All (λ size. 0 < size) sizes → StartsGroup (ids_in sizes locks)
starts_ids [] locks some = tt
starts_ids (size ∷ sizes) [] some = tt
starts_ids (zero ∷ sizes) (lock ∷ locks) some = let no = All-head (λ (n : ℕ). 0 < n) zero sizes some in absurd (omega (arith, no))
starts_ids (suc size ∷ sizes) (lock ∷ locks) some = (lock, refl)

-- each group stands under its lock
abbrev AreUnder : List (List KnownLink) → List LockId → Type 0
AreUnder groups locks = (group : ℕ) (links : List KnownLink) → slice_get groups group ≡ Some links → (lock : LockId) × (slice_get locks group ≡ Some lock) × (locks_of links ≡ ids_of lock 0 (length links))

pub aligned : (groups : List (List KnownLink)) (sizes : List ℕ) (locks : List LockId) → All IsGroup groups → All (λ size. 0 < size) sizes → length locks ≡ length sizes → locks_of (links_of_groups groups) ≡ ids_in sizes locks
    → (map (λ links. length links) groups ≡ sizes) × AreUnder groups locks
aligned [] [] locks are some many same = (refl, λ group links is. cc)
aligned [] (zero ∷ sizes) locks are some many same = let no = All-head (λ (n : ℕ). 0 < n) zero sizes some in absurd (omega (arith, no))
aligned [] (suc size ∷ sizes) [] are some many same = absurd (omega (arith, many))
aligned [] (suc size ∷ sizes) (lock ∷ locks) are some many same = cc
aligned ([] ∷ groups) sizes locks are some many same = let no = (All-head IsGroup [] groups are).some in absurd (omega (arith, no))
aligned ((k ∷ links) ∷ groups) [] locks are some many same = cc
aligned ((k ∷ links) ∷ groups) (size ∷ sizes) [] are some many same = absurd (omega (arith, many))
aligned ((k ∷ links) ∷ groups) (zero ∷ sizes) (lock ∷ locks) are some many same = let no = All-head (λ (n : ℕ). 0 < n) zero sizes some in absurd (omega (arith, no))
aligned ((k ∷ links) ∷ groups) (suc size ∷ sizes) (lock ∷ locks) are some many same =
    let is = All-head IsGroup (k ∷ links) groups are in
    let rest = All-tail IsGroup (k ∷ links) groups are in
    let rest_some = All-tail (λ (n : ℕ). 0 < n) (suc size) sizes some in
    let whole : ids_of is.lock 0 (suc (length links)) ++ locks_of (links_of_groups groups) ≡ ids_of lock 0 (suc size) ++ ids_in sizes locks =
    ap (λ (ids : List LockId). ids ++ locks_of (links_of_groups groups)) (sym is.ids) ∙ (sym (map-append (λ (x : KnownLink). x.lock) (k ∷ links) (links_of_groups groups)) ∙ same) in
    let one : is.lock ≡ lock = names_one 0 is.lock lock (same_head (under is.lock 0) (under lock 0) _ _ whole) in
    let peeled = peel 0 (length links) size is.lock lock (locks_of (links_of_groups groups)) (ids_in sizes locks) (starts_joined groups rest) (starts_ids sizes locks rest_some) (same_tail (under is.lock 0) (under lock 0) _ _ whole) in
    let later = aligned groups sizes locks rest rest_some (omega (arith, many)) peeled.1 in (
      (λ i. suc (peeled.0 i) ∷ later.0 i),
      under_each is.lock one is.ids later.1,
    )
  where
    under_each : (l : LockId) → l ≡ lock → locks_of (k ∷ links) ≡ ids_of l 0 (length (k ∷ links)) → AreUnder groups locks → AreUnder ((k ∷ links) ∷ groups) (lock ∷ locks)
    under_each l one ids later zero found is =
        let same_links : (k ∷ links) ≡ found = same_Some (k ∷ links) found is in
        (lock, refl, subst (λ (ls : List KnownLink). locks_of ls ≡ ids_of lock 0 (length ls)) same_links (ids ∙ ap (λ (x : LockId). ids_of x 0 (length (k ∷ links))) one))
    under_each l one ids later (suc group) found is = later group found is

pub ids_are : (net : Net) (ids : List LockId) (settings : List Settings) (links : List KnownLink) → ArePasses keeping_no_frame net ids settings links → locks_of links ≡ ids
ids_are net [] [] [] are = refl
ids_are net (id ∷ ids) (s ∷ settings) (k ∷ links) are = (λ i. are.0.at_lock i ∷ ids_are net ids settings links are.1 i)
ids_are net (id ∷ ids) (s ∷ settings) [] are = absurd are
ids_are net (id ∷ ids) [] links are = absurd are
ids_are net [] (s ∷ settings) links are = absurd are
ids_are net [] [] (k ∷ links) are = absurd are

-- ---- what stands at a link's index

pub record Here (net : Net) (locks : List LockId) (groups : List (List KnownLink)) (at : ℕ) (place : LinkPlace) (settings : Settings) : Type 0 where
  pub lock : LockId
  pub lock_there : slice_get locks place.group ≡ Some lock
  pub links : List KnownLink
  pub group_there : slice_get groups place.group ≡ Some links
  pub pass : KnownLink
  pub pass_there : slice_get links place.index ≡ Some pass
  pub of_all : slice_get (links_of_groups groups) at ≡ Some pass
  pub at_lock : pass.lock ≡ under lock place.index
  pub its_id : LockId
  pub is_pass : IsPassOn keeping_no_frame its_id settings net pass
  pub written : (new : KnownLink) → links_of_groups (set groups place.group (set links place.index new)) ≡ set (links_of_groups groups) at new

pub here : (net : Net) (sizes : List ℕ) (locks : List LockId) (settings : List Settings) (groups : List (List KnownLink)) (at : ℕ) (place : LinkPlace) (its : Settings) → ArePasses keeping_no_frame net (ids_in sizes locks) settings (links_of_groups groups)
    → slice_get settings at ≡ Some its → All IsGroup groups → All (λ size. 0 < size) sizes → length locks ≡ length sizes → slice_get (places_in 0 sizes) at ≡ Some place → Here net locks groups at place its
here net sizes locks settings groups at place its are its_there are_groups some many listed =
    let cut = aligned groups sizes locks are_groups some many (ids_are net (ids_in sizes locks) settings (links_of_groups groups) are) in
    let stands = in_table 0 sizes at place listed in
    let its_group : place.group ≡ stands.0 = omega (arith, stands.1) in
    let is_at : IsPlacedIn (map (λ links. length links) groups) place.group place.index at = rw (cut.0, its_group) stands.2 in
    let found = reached groups place.group place.index at is_at in
    let one = at_place keeping_no_frame net (ids_in sizes locks) settings (links_of_groups groups) at its are its_there in
    let below = cut.1 place.group found.links found.there in
    let pass_there : slice_get found.links place.index ≡ Some one.pass = sym found.same ∙ one.pass_there in
    let id : Some one.pass.lock ≡ Some (under below.0 place.index) =
    sym (slice_get-map (λ (k : KnownLink). k.lock) found.links place.index ∙ ap (λ (k : Option KnownLink). option_map (λ (x : KnownLink). x.lock) k) pass_there)
    ∙ (ap (λ (ids : List LockId). slice_get ids place.index) below.2 ∙ (id_there below.0 0 (length found.links) place.index found.within
    ∙ ap (λ (p : ℕ). Some (under below.0 p)) (let z : 0 + place.index ≡ place.index = omega arith in z))) in
    record {
      lock = below.0;
      lock_there = below.1;
      links = found.links;
      group_there = found.there;
      pass = one.pass;
      pass_there = pass_there;
      of_all = one.pass_there;
      at_lock = same_Some one.pass.lock (under below.0 place.index) id;
      its_id = one.lock;
      is_pass = one.is_pass;
      written = found.written;
    }

-- ---- places that are read

pub within_places : (sizes : List ℕ) (locks : List LockId) (places : List LinkPlace) (at : ℕ) → length locks ≡ length sizes → places ≡ places_in 0 sizes → at < length (ids_in sizes locks) → at < length places
within_places sizes locks places at many are low = omega (arith, low, ap (λ (ps : List LinkPlace). length ps) are, as_many_places 0 sizes locks many)

pub listed_at : (sizes : List ℕ) (locks : List LockId) (places : List LinkPlace) (at : ℕ) (place : LinkPlace) → length locks ≡ length sizes → places ≡ places_in 0 sizes → at < length (ids_in sizes locks) → place ≡ slice_index_or places at place
    → slice_get (places_in 0 sizes) at ≡ Some place
listed_at sizes locks places at place many are low read =
    subst (λ (ps : List LinkPlace). slice_get ps at ≡ Some place) are (slice_get_read places (length places) at place refl (within_places sizes locks places at many are low) read)

pub number_within : (sizes : List ℕ) (group index at : ℕ) → IsPlacedIn sizes group index at → group < length sizes
number_within [] group index at is = absurd is
number_within (size ∷ sizes) zero index at is = omega arith
number_within (size ∷ sizes) (suc group) index at is = let later = number_within sizes group index is.0 is.2 in omega (arith, later)

pub group_within : (sizes : List ℕ) (at : ℕ) (place : LinkPlace) (locks : List LockId) → length locks ≡ length sizes → slice_get (places_in 0 sizes) at ≡ Some place → place.group < length locks
group_within sizes at place locks many listed =
    let stands = in_table 0 sizes at place listed in
    omega (arith, many, stands.1, number_within sizes stands.0 place.index at stands.2)

-- ---- a group after a call

-- passes under the same locks are a group still
pub group_set : (links : List KnownLink) (index : ℕ) (before after : KnownLink) → IsGroup links → slice_get links index ≡ Some before → after.lock ≡ before.lock → IsGroup (set links index after)
group_set links index before after is found same = record {
  lock = is.lock;
  some = omega (arith, is.some, length-set links index after);
  ids = map-set_same (λ (k : KnownLink). k.lock) links index before after found same ∙ (is.ids ∙ ap (ids_of is.lock 0) (sym (length-set links index after)));
}

pub All-set : {X : Type 0} (P : X → Type 0) (xs : List X) (i : ℕ) (x : X) → All P xs → P x → All P (set xs i x)
All-set P [] i x all is = all
All-set P (y ∷ xs) zero x all is = All-cons P x xs is (All-tail P y xs all)
All-set P (y ∷ xs) (suc i) x all is = All-cons P y (set xs i x) (All-head P y xs all) (All-set P xs i x (All-tail P y xs all) is)

pub all_at : {X : Type 0} (P : X → Type 0) (xs : List X) (i : ℕ) (x : X) → All P xs → slice_get xs i ≡ Some x → P x
all_at P [] i x all is = cc
all_at P (y ∷ xs) zero x all is = subst P (same_Some y x is) (All-head P y xs all)
all_at P (y ∷ xs) (suc i) x all is = all_at P xs i x (All-tail P y xs all) is

-- ---- the cut is the only one

unique_cut : (s1 s2 : List ℕ) (l1 l2 : List LockId) → All (λ size. 0 < size) s1 → All (λ size. 0 < size) s2 → length l1 ≡ length s1 → length l2 ≡ length s2 → ids_in s1 l1 ≡ ids_in s2 l2 → s1 ≡ s2
unique_cut [] [] l1 l2 some1 some2 many1 many2 same = refl
unique_cut [] (zero ∷ s2) l1 l2 some1 some2 many1 many2 same = let no = All-head (λ (n : ℕ). 0 < n) zero s2 some2 in absurd (omega (arith, no))
unique_cut [] (suc n ∷ s2) l1 [] some1 some2 many1 many2 same = absurd (omega (arith, many2))
unique_cut [] (suc n ∷ s2) l1 (r ∷ l2) some1 some2 many1 many2 same = cc
unique_cut (zero ∷ s1) s2 l1 l2 some1 some2 many1 many2 same = let no = All-head (λ (n : ℕ). 0 < n) zero s1 some1 in absurd (omega (arith, no))
unique_cut (suc m ∷ s1) s2 [] l2 some1 some2 many1 many2 same = absurd (omega (arith, many1))
unique_cut (suc m ∷ s1) [] (l ∷ l1) l2 some1 some2 many1 many2 same = cc
unique_cut (suc m ∷ s1) (zero ∷ s2) (l ∷ l1) l2 some1 some2 many1 many2 same = let no = All-head (λ (n : ℕ). 0 < n) zero s2 some2 in absurd (omega (arith, no))
unique_cut (suc m ∷ s1) (suc n ∷ s2) (l ∷ l1) [] some1 some2 many1 many2 same = absurd (omega (arith, many2))
unique_cut (suc m ∷ s1) (suc n ∷ s2) (l ∷ l1) (r ∷ l2) some1 some2 many1 many2 same =
    let rest1 = All-tail (λ (k : ℕ). 0 < k) (suc m) s1 some1 in
    let rest2 = All-tail (λ (k : ℕ). 0 < k) (suc n) s2 some2 in
    let peeled = peel 0 m n l r (ids_in s1 l1) (ids_in s2 l2) (starts_ids s1 l1 rest1) (starts_ids s2 l2 rest2) (same_tail (under l 0) (under r 0) _ _ same) in
    let later = unique_cut s1 s2 l1 l2 rest1 rest2 (omega (arith, many1)) (omega (arith, many2)) peeled.1 in
    (λ i. suc (peeled.0 i) ∷ later i)

low_at : (sizes : List ℕ) (group index at : ℕ) → IsPlacedIn sizes group index at → index ≤ at
low_at [] group index at is = absurd is
low_at (size ∷ sizes) zero index at is = omega (arith, is.0)
low_at (size ∷ sizes) (suc group) index at is = let later = low_at sizes group index is.0 is.2 in omega (arith, later, is.1)

one_place : (sizes : List ℕ) (g h i j at : ℕ) → IsPlacedIn sizes g i at → IsPlacedIn sizes h j at → (g ≡ h) × (i ≡ j)
one_place [] g h i j at one other = absurd one
one_place (size ∷ sizes) zero zero i j at one other = (refl, one.0 ∙ sym other.0)
one_place (size ∷ sizes) zero (suc h) i j at one other = absurd (omega (arith, one.0, one.1, other.1))
one_place (size ∷ sizes) (suc g) zero i j at one other = absurd (omega (arith, other.0, other.1, one.1))
one_place (size ∷ sizes) (suc g) (suc h) i j at one other =
    let same : one.0 ≡ other.0 = omega (arith, one.1, other.1) in
    let later = one_place sizes g h i j other.0 (subst (IsPlacedIn sizes g i) same one.2) other.2 in
    (ap suc later.0, later.1)

-- two links at one place of a group are one
pub one_link : (sizes : List ℕ) (group index a b : ℕ) → IsPlacedIn sizes group index a → IsPlacedIn sizes group index b → a ≡ b
one_link [] group index a b one other = absurd one
one_link (size ∷ sizes) zero index a b one other = sym one.0 ∙ other.0
one_link (size ∷ sizes) (suc group) index a b one other = let later = one_link sizes group index one.0 other.0 one.2 other.2 in omega (arith, one.1, other.1, later)

-- what is read of a link of a group
pub stands_at : (sizes : List ℕ) (locks : List LockId) (group at : ℕ) (place : LinkPlace) → All (λ size. 0 < size) sizes → length locks ≡ length sizes → slice_get (places_in 0 sizes) at ≡ Some place → IsInGroup (ids_in sizes locks) group at
    → (place.group ≡ group) × IsPlacedIn sizes group place.index at
stands_at sizes locks group at place some many listed stands =
    let cut : stands.sizes ≡ sizes = unique_cut stands.sizes sizes stands.locks locks stands.some some stands.one_each many (sym stands.are) in
    let read = in_table 0 sizes at place listed in
    let theirs : IsPlacedIn sizes group stands.index at = subst (λ (ns : List ℕ). IsPlacedIn ns group stands.index at) cut stands.there in
    let one = one_place sizes read.0 group place.index stands.index at read.2 theirs in
    (omega (arith, read.1, one.0), subst (λ (g : ℕ). IsPlacedIn sizes g place.index at) one.0 read.2)
