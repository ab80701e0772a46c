-- The first place at which a test passes, in a list with one element more at its front.
use Rattle.std.proofs.Common.{◌≡◌, ◌∙◌, ℕ, suc, Bool, true, false, List, ◌∷◌, Option, None, Some, refl, option_map, subst, zero, cond, [], ◌++◌, length, drop, remove, ap, sym, ◌<◌, ◌≤◌, inl, inr, ⊎_elim, not, is_some, arith}
use Rattle.std.specs.Prelude.{position, ◌==◌, slice_get, slice_set, ◌&&◌, ◌⊎◌}
use Rattle.es_base.proofs.Places.{position_cons}
use Rattle.std.proofs.lemmas.Option.{same_Some}
use Rattle.es_base.specs.declared.fragment.DatagramKey.{DatagramKey}
use Rattle.es_base.specs.Limits.{most_partials}
use Rattle.link_rules.specs.Fragments.{Piece, is_bad, is_whole, key_of, piece_of}
use Rattle.link_rules.specs.Groups.{Group, group_with, has_key, with_room, Found, begins, datagram_with, fate, found_at, found_for, found_if, groups_after, groups_with, is_over, is_same_key, joins, place_of, whole, without_group}
use Rattle.std.proofs.lemmas.Bool.{cases_Bool, false≢true, eqb-true}
use Rattle.es_base.specs.Packet.{PacketParts}
use Rattle.es_base.proofs.Firsts.{found_at as found_place, passes_found}
use Rattle.link_rules.proofs.Keys.{key_itself, other_way, same_key}
use Rattle.datagram_delivery.specs.Splitting.{Offer, groups_after_offers, begins_group, begun_meanwhile, begun_since, is_beginning, others_in}

-- it passes at the first
pub place_here : {X : Type 0} (p : X → Bool) (x : X) (xs : List X) → p x ≡ true → position p (x ∷ xs) ≡ Some 0
place_here p x xs is = position_cons p x xs ∙ rw is refl

-- it doesn't
pub place_later : {X : Type 0} (p : X → Bool) (x : X) (xs : List X) → p x ≡ false → position p (x ∷ xs) ≡ option_map suc (position p xs)
place_later p x xs is = position_cons p x xs ∙ rw is refl

pub later_place : (place : Option ℕ) (i : ℕ) → option_map suc place ≡ Some i → (j : ℕ) × (i ≡ suc j) × (place ≡ Some j)
later_place None i is = cc
later_place (Some j) i is = (j, cc, refl)

-- ---- what holds of each group of a link, and that no two have one key, after each change of the groups

-- ---- each group

abbrev pub EachGroup : (Group → Type 0) → List Group → Type 0
EachGroup Holds [] = Unit {0}
EachGroup Holds (group ∷ groups) = Holds group × EachGroup Holds groups

pub each_at : (Holds : Group → Type 0) (groups : List Group) (i : ℕ) (group : Group) → EachGroup Holds groups → slice_get groups i ≡ Some group → Holds group
each_at Holds [] i group each at = cc
each_at Holds (first ∷ groups) zero group each at = subst Holds (same_Some first group at) each.0
each_at Holds (first ∷ groups) (suc i) group each at = each_at Holds groups i group each.1 at

pub each_more : (Holds Also : Group → Type 0) (groups : List Group) → ((group : Group) → Holds group → Also group) → EachGroup Holds groups → EachGroup Also groups
each_more Holds Also [] more each = tt
each_more Holds Also (group ∷ groups) more each = (more group each.0, each_more Holds Also groups more each.1)

pub each_remove : (Holds : Group → Type 0) (groups : List Group) (i : ℕ) → EachGroup Holds groups → EachGroup Holds (remove groups i)
each_remove Holds [] zero each = tt
each_remove Holds [] (suc i) each = tt
each_remove Holds (group ∷ groups) zero each = each.1
each_remove Holds (group ∷ groups) (suc i) each = (each.0, each_remove Holds groups i each.1)

pub each_set : (Holds : Group → Type 0) (groups : List Group) (i : ℕ) (group : Group) → EachGroup Holds groups → Holds group → EachGroup Holds (slice_set groups i group)
each_set Holds [] i group each is = tt
each_set Holds (first ∷ groups) zero group each is = (is, each.1)
each_set Holds (first ∷ groups) (suc i) group each is = (each.0, each_set Holds groups i group each.1 is)

pub each_push : (Holds : Group → Type 0) (groups : List Group) (group : Group) → EachGroup Holds groups → Holds group → EachGroup Holds (groups ++ group ∷ [])
each_push Holds [] group each is = (is, tt)
each_push Holds (first ∷ groups) group each is = (each.0, each_push Holds groups group each.1 is)

-- what holds of groups without the first, if it holds of all, holds of those that are left as room is made
pub room_kept : (Hold : List Group → Type 0) → ((group : Group) (groups : List Group) → Hold (group ∷ groups) → Hold groups) → (groups : List Group) → Hold groups → Hold (with_room groups)
room_kept Hold fewer groups all = go (length groups == most_partials)
  where
    shorter : (groups : List Group) → Hold groups → Hold (drop 1 groups)
    shorter [] all = all
    shorter (group ∷ groups) all = fewer group groups all

    go : (full : Bool) → Hold (cond full (drop 1 groups) groups)
    go true = shorter groups all
    go false = all

pub each_room : (Holds : Group → Type 0) (groups : List Group) → EachGroup Holds groups → EachGroup Holds (with_room groups)
each_room Holds groups each = room_kept (EachGroup Holds) (λ group groups all. all.1) groups each

-- ---- no group has a key

abbrev pub HasOther : DatagramKey → Group → Type 0
HasOther key group = has_key key group ≡ false

abbrev pub IsAbsent : DatagramKey → List Group → Type 0
IsAbsent key groups = EachGroup (HasOther key) groups

-- a piece more changes no key
pub absent_set : (key : DatagramKey) (groups : List Group) (i : ℕ) (group : Group) (piece : Piece) → IsAbsent key groups → slice_get groups i ≡ Some group → IsAbsent key (slice_set groups i (group_with group piece))
absent_set key groups i group piece absent at = each_set (HasOther key) groups i (group_with group piece) absent (each_at (HasOther key) groups i group absent at)

-- ---- no two have one

abbrev pub AreDistinct : List Group → Type 0
AreDistinct [] = Unit {0}
AreDistinct (group ∷ groups) = IsAbsent group.key groups × AreDistinct groups

pub distinct_remove : (groups : List Group) (i : ℕ) → AreDistinct groups → AreDistinct (remove groups i)
distinct_remove [] zero distinct = tt
distinct_remove [] (suc i) distinct = tt
distinct_remove (group ∷ groups) zero distinct = distinct.1
distinct_remove (group ∷ groups) (suc i) distinct = (each_remove (HasOther group.key) groups i distinct.0, distinct_remove groups i distinct.1)

pub distinct_set : (groups : List Group) (i : ℕ) (group : Group) (piece : Piece) → AreDistinct groups → slice_get groups i ≡ Some group → AreDistinct (slice_set groups i (group_with group piece))
distinct_set [] i group piece distinct at = tt
distinct_set (first ∷ groups) zero group piece distinct at = (subst (λ (g : Group). IsAbsent g.key groups) (same_Some first group at) distinct.0, distinct.1)
distinct_set (first ∷ groups) (suc i) group piece distinct at = (absent_set first.key groups i group piece distinct.0 at, distinct_set groups i group piece distinct.1 at)

-- ---- the group of one key, and what a packet of another key leaves of it

-- ---- no group has the key

pub absent_place : (key : DatagramKey) (groups : List Group) → IsAbsent key groups → place_of key groups ≡ None
absent_place key [] absent = refl
absent_place key (group ∷ groups) absent = place_later (has_key key) group groups absent.0 ∙ ap (option_map suc) (absent_place key groups absent.1)

pub place_absent : (key : DatagramKey) (groups : List Group) → place_of key groups ≡ None → IsAbsent key groups
place_absent key [] none = tt
place_absent key (group ∷ groups) none =
    ⊎_elim
    (λ (is : has_key key group ≡ true). let e = sym none ∙ place_here (has_key key) group groups is in cc)
    (λ (is : has_key key group ≡ false). (is, place_absent key groups (rest (place_of key groups) (sym (place_later (has_key key) group groups is) ∙ none))))
    (cases_Bool (has_key key group))
  where
    rest : (place : Option ℕ) → option_map suc place ≡ None → place ≡ None
    rest None e = refl
    rest (Some i) e = cc

pub distinct_push : (groups : List Group) (group : Group) → AreDistinct groups → IsAbsent group.key groups → AreDistinct (groups ++ group ∷ [])
distinct_push [] group distinct absent = (tt, tt)
distinct_push (first ∷ groups) group distinct absent =
    (each_push (HasOther first.key) groups group distinct.0 (other_way first.key group.key absent.0), distinct_push groups group distinct.1 absent.1)

-- ---- a group has it, and has these pieces; at most n groups that began after it stand

abbrev pub Stands : DatagramKey → List Piece → ℕ → List Group → Type 0
Stands key pieces n [] = ⊥
Stands key pieces n (group ∷ groups) = ((group ≡ record { key = key; pieces = pieces }) × (length groups ≤ n)) ⊎ ((has_key key group ≡ false) × Stands key pieces n groups)

pub stands_more : (key : DatagramKey) (pieces : List Piece) (n m : ℕ) (groups : List Group) → n ≤ m → Stands key pieces n groups → Stands key pieces m groups
stands_more key pieces n m [] le stands = stands
stands_more key pieces n m (group ∷ groups) le (inl here) = let few = here.1 in inl (here.0, omega arith)
stands_more key pieces n m (group ∷ groups) le (inr later) = inr (later.0, stands_more key pieces n m groups le later.1)

length_remove : (groups : List Group) (i : ℕ) → length (remove groups i) ≤ length groups
length_remove [] zero = omega arith
length_remove [] (suc i) = omega arith
length_remove (group ∷ groups) zero = omega arith
length_remove (group ∷ groups) (suc i) = let less = length_remove groups i in omega arith

length_set : (groups : List Group) (i : ℕ) (group : Group) → length (slice_set groups i group) ≡ length groups
length_set [] i group = refl
length_set (first ∷ groups) zero group = refl
length_set (first ∷ groups) (suc i) group = ap suc (length_set groups i group)

-- our group isn't found by another key
not_ours : (key other : DatagramKey) (pieces : List Piece) (group : Group) → is_same_key key other ≡ false → group ≡ record { key = key; pieces = pieces } → has_key other group ≡ false
not_ours key other pieces group differ is = ap (λ (g : Group). is_same_key g.key other) is ∙ differ

stands_remove : (key other : DatagramKey) (pieces : List Piece) (n : ℕ) (groups : List Group) (i : ℕ) → is_same_key key other ≡ false → Stands key pieces n groups → place_of other groups ≡ Some i
    → Stands key pieces n (remove groups i)
stands_remove key other pieces n [] i differ stands at = absurd stands
stands_remove key other pieces n (group ∷ groups) i differ (inl here) at =
    let (j, is, later) = later_place (place_of other groups) i (sym (place_later (has_key other) group groups (not_ours key other pieces group differ here.0)) ∙ at) in
    let fewer = length_remove groups j in
    let few = here.1 in
    rw is (inl (here.0, omega (arith, fewer, few)))
stands_remove key other pieces n (group ∷ groups) i differ (inr later) at =
    ⊎_elim
    (λ (is : has_key other group ≡ true).
    let e : i ≡ 0 = sym (same_Some _ _ (sym (place_here (has_key other) group groups is) ∙ at)) in
    rw e later.1)
    (λ (is : has_key other group ≡ false).
    let (j, e, after) = later_place (place_of other groups) i (sym (place_later (has_key other) group groups is) ∙ at) in
    rw e (inr (later.0, stands_remove key other pieces n groups j differ later.1 after)))
    (cases_Bool (has_key other group))

stands_set : (key other : DatagramKey) (pieces : List Piece) (n : ℕ) (groups : List Group) (i : ℕ) (group : Group) (piece : Piece) → is_same_key key other ≡ false → Stands key pieces n groups
    → place_of other groups ≡ Some i → slice_get groups i ≡ Some group → Stands key pieces n (slice_set groups i (group_with group piece))
stands_set key other pieces n [] i group piece differ stands at got = cc
stands_set key other pieces n (first ∷ groups) zero group piece differ (inl here) at got =
    let (j, is, later) = later_place (place_of other groups) 0 (sym (place_later (has_key other) first groups (not_ours key other pieces first differ here.0)) ∙ at) in
    absurd (omega arith)
stands_set key other pieces n (first ∷ groups) (suc i) group piece differ (inl here) at got =
    let same = length_set groups i (group_with group piece) in
    let few = here.1 in
    inl (here.0, omega (arith, same, few))
stands_set key other pieces n (first ∷ groups) zero group piece differ (inr later) at got =
    inr (ap (λ (g : Group). is_same_key g.key key) (sym (same_Some first group got)) ∙ later.0, later.1)
stands_set key other pieces n (first ∷ groups) (suc i) group piece differ (inr later) at got =
    ⊎_elim
    (λ (is : has_key other first ≡ true).
    let e : suc i ≡ 0 = sym (same_Some _ _ (sym (place_here (has_key other) first groups is) ∙ at)) in
    absurd (omega arith))
    (λ (is : has_key other first ≡ false).
    let (j, e, after) = later_place (place_of other groups) (suc i) (sym (place_later (has_key other) first groups is) ∙ at) in
    let e2 : i ≡ j = omega arith in
    inr (later.0, stands_set key other pieces n groups i group piece differ later.1 (after ∙ ap Some (sym e2)) got))
    (cases_Bool (has_key other first))

-- room is made by giving up another group, where fewer than three that began after it stand
stands_room : (key : DatagramKey) (pieces : List Piece) (n : ℕ) (groups : List Group) → n < 3 → Stands key pieces n groups → Stands key pieces n (with_room groups)
stands_room key pieces n groups few stands = go (length groups == most_partials) refl
  where
    shorter : (groups : List Group) → length groups ≡ 4 → Stands key pieces n groups → Stands key pieces n (drop 1 groups)
    shorter [] full stands = stands
    shorter (group ∷ groups) full (inl here) = let less = here.1 in absurd (omega arith)
    shorter (group ∷ groups) full (inr later) = later.1

    go : (full : Bool) → (length groups == most_partials) ≡ full → Stands key pieces n (cond full (drop 1 groups) groups)
    go true e = shorter groups (eqb-true (length groups) 4 e) stands
    go false e = stands

stands_push : (key : DatagramKey) (pieces : List Piece) (n : ℕ) (groups : List Group) (group : Group) → Stands key pieces n groups → Stands key pieces (suc n) (groups ++ group ∷ [])
stands_push key pieces n [] group stands = absurd stands
stands_push key pieces n (first ∷ groups) group (inl here) =
    let more = length_push groups group in
    let few = here.1 in
    inl (here.0, omega (arith, more, few))
  where
    length_push : (groups : List Group) (group : Group) → length (groups ++ group ∷ []) ≡ suc (length groups)
    length_push [] group = refl
    length_push (first ∷ groups) group = ap suc (length_push groups group)
stands_push key pieces n (first ∷ groups) group (inr later) = inr (later.0, stands_push key pieces n groups group later.1)

-- ---- what a packet of another key leaves

-- without the group of a key no group has it
removed_absent : (key : DatagramKey) (groups : List Group) (place : ℕ) → AreDistinct groups → place_of key groups ≡ Some place → IsAbsent key (remove groups place)
removed_absent key [] place distinct there = let none : place_of key [] ≡ None = refl in let e = sym none ∙ there in cc
removed_absent key (group ∷ groups) place distinct there =
    ⊎_elim
    (λ (is : has_key key group ≡ true).
    let e : 0 ≡ place = same_Some _ _ (sym (place_here (has_key key) group groups is) ∙ there) in
    subst (λ (i : ℕ). IsAbsent key (remove (group ∷ groups) i)) e (subst (λ (k : DatagramKey). IsAbsent k groups) (same_key group.key key is) distinct.0))
    (λ (is : has_key key group ≡ false).
    let (j, e, after) = later_place (place_of key groups) place (sym (place_later (has_key key) group groups is) ∙ there) in
    subst (λ (i : ℕ). IsAbsent key (remove (group ∷ groups) i)) (sym e) (is, removed_absent key groups j distinct.1 after))
    (cases_Bool (has_key key group))

place_has : (key : DatagramKey) (groups : List Group) (place : ℕ) → place_of key groups ≡ Some place → slice_get groups place ≡ None → ⊥
place_has key [] place there none = let e : None ≡ Some place = there in cc
place_has key (group ∷ groups) place there none =
    ⊎_elim
    (λ (is : has_key key group ≡ true).
    let e : 0 ≡ place = same_Some _ _ (sym (place_here (has_key key) group groups is) ∙ there) in
    let f : Some group ≡ None = ap (slice_get (group ∷ groups)) e ∙ none in
    cc)
    (λ (is : has_key key group ≡ false).
    let (j, e, after) = later_place (place_of key groups) place (sym (place_later (has_key key) group groups is) ∙ there) in
    place_has key groups j after (ap (slice_get (group ∷ groups)) (sym e) ∙ none))
    (cases_Bool (has_key key group))

-- what a key finds among some groups: one that it has and that isn't over, or others without it
IsFoundIn : ℕ → ℕ → List Group → DatagramKey → Found → Type 0
IsFoundIn limit now groups key (joins place group) = (place_of key groups ≡ Some place) × (slice_get groups place ≡ Some group) × (is_over limit now group ≡ false)
IsFoundIn limit now groups key (begins others) = ((place_of key groups ≡ None) × (others ≡ groups)) ⊎ ((place : ℕ) × (place_of key groups ≡ Some place) × (others ≡ remove groups place))

found_in : (limit : ℕ) (groups : List Group) (key : DatagramKey) (now : ℕ) (found : Found) → found_for limit groups key now ≡ found → IsFoundIn limit now groups key found
unfolding IsFoundIn
found_in limit groups key now found same = subst (IsFoundIn limit now groups key) same (at (place_of key groups) refl)
  where
    over : (place : ℕ) (group : Group) → place_of key groups ≡ Some place → slice_get groups place ≡ Some group → (is : Bool) → is_over limit now group ≡ is
        → IsFoundIn limit now groups key (cond is (begins (remove groups place)) (joins place group))
    over place group there got true e = inr (place, there, refl)
    over place group there got false e = (there, got, e)

    got : (place : ℕ) → place_of key groups ≡ Some place → (group : Option Group) → slice_get groups place ≡ group → IsFoundIn limit now groups key (found_if limit groups now place group)
    got place there None is = absurd (place_has key groups place there is)
    got place there (Some group) is = over place group there is (is_over limit now group) refl

    at : (place : Option ℕ) → place_of key groups ≡ place → IsFoundIn limit now groups key (found_at limit groups now place)
    at None is = inl (is, refl)
    at (Some place) is = got place is (slice_get groups place) refl

-- what holds of others as a group begins, if it holds of all and without one
pub begins_from : (limit : ℕ) (groups others : List Group) (key : DatagramKey) (now : ℕ) → found_for limit groups key now ≡ begins others → (Hold : List Group → Type 0) → Hold groups
    → ((place : ℕ) → place_of key groups ≡ Some place → Hold (remove groups place)) → Hold others
unfolding IsFoundIn
begins_from limit groups others key now is Hold all removed = go (found_in limit groups key now (begins others) is)
  where
    go : IsFoundIn limit now groups key (begins others) → Hold others
    go (inl (none, same)) = subst Hold (sym same) all
    go (inr (place, there, same)) = subst Hold (sym same) (removed place there)

-- a group that is joined
pub joins_from : (limit : ℕ) (groups : List Group) (group : Group) (key : DatagramKey) (now place : ℕ) → found_for limit groups key now ≡ joins place group
    → (has_key key group ≡ true) × (slice_get groups place ≡ Some group) × (is_over limit now group ≡ false)
unfolding IsFoundIn
joins_from limit groups group key now place is =
    let (there, got, over) = found_in limit groups key now (joins place group) is in
    (passes_found (has_key key) groups group (found_place (has_key key) groups place there ∙ got), got, over)

-- no other has the key then
pub begins_absent : (limit : ℕ) (groups others : List Group) (key : DatagramKey) (now : ℕ) → AreDistinct groups → found_for limit groups key now ≡ begins others → IsAbsent key others
unfolding IsFoundIn
begins_absent limit groups others key now distinct is = go (found_in limit groups key now (begins others) is)
  where
    go : IsFoundIn limit now groups key (begins others) → IsAbsent key others
    go (inl (none, same)) = subst (IsAbsent key) (sym same) (place_absent key groups none)
    go (inr (place, there, same)) = subst (IsAbsent key) (sym same) (removed_absent key groups place distinct there)

-- what holds of the groups before a packet, and is kept by each change but the beginning of a group
pub after_other : (limit : ℕ) (groups : List Group) (packet : PacketParts) (now : ℕ) (P Q : List Group → Type 0) → P groups
    → ((place : ℕ) → place_of (key_of packet) groups ≡ Some place → P (remove groups place))
    → (is_whole packet ≡ false → (place : ℕ) (group : Group) → place_of (key_of packet) groups ≡ Some place → slice_get groups place ≡ Some group → is_over limit now group ≡ false
    → P (slice_set groups place (group_with group (piece_of packet now))))
    → (begins_group limit groups packet now ≡ true → (others : List Group) → found_for limit groups (key_of packet) now ≡ begins others → P others → Q (with_room others))
    → (begins_group limit groups packet now ≡ true → (others : List Group) → found_for limit groups (key_of packet) now ≡ begins others → P others → Q (with_room others ++ record { key = key_of packet; pieces = piece_of packet now ∷ [] } ∷ []))
    → (begins_group limit groups packet now ≡ true → Q (groups_after limit groups packet now)) × (begins_group limit groups packet now ≡ false → P (groups_after limit groups packet now))
unfolding groups_after IsFoundIn
after_other limit groups packet now P Q before removed put room push = go (is_whole packet) (is_bad packet) refl refl
  where
    key : DatagramKey
    key = key_of packet

    complete : Bool
    complete = is_some (datagram_with limit groups packet now)

    given_up : (place : Option ℕ) → place_of key groups ≡ place → P (without_group groups place)
    given_up None is = before
    given_up (Some place) is = removed place is

    begun : (found : Found) → found_for limit groups key now ≡ found → is_beginning found ≡ true → begins_group limit groups packet now ≡ true → (all : Bool) → Q (groups_with groups key (piece_of packet now) found all)
    begun (joins place group) is true_is is_begun all = cc
    begun (begins others) is true_is is_begun true = room is_begun others is (begins_from limit groups others key now is P before removed)
    begun (begins others) is true_is is_begun false = push is_begun others is (begins_from limit groups others key now is P before removed)

    kept : is_whole packet ≡ false → (found : Found) → IsFoundIn limit now groups key found → is_beginning found ≡ false → (all : Bool) → P (groups_with groups key (piece_of packet now) found all)
    kept part (joins place group) found none true = removed place found.0
    kept part (joins place group) found none false = put part place group found.0 found.1 found.2
    kept part (begins others) found none all = cc

    go : (all bad : Bool) → is_whole packet ≡ all → is_bad packet ≡ bad
        → (begins_group limit groups packet now ≡ true → Q (groups_after limit groups packet now)) × (begins_group limit groups packet now ≡ false → P (groups_after limit groups packet now))
    go true bad e f = (λ is. absurd (false≢true (rw e at is)), λ is. rw e (given_up (place_of key groups) refl))
    go false true e f = (λ is. absurd (false≢true (rw (e, f) at is)), λ is. rw (e, f) before)
    go false false e f = (
      λ is. rw (e, f) (begun (found_for limit groups key now) refl (rw (e, f) at is) is complete),
      λ is. rw (e, f) (kept e (found_for limit groups key now) (found_in limit groups key now (found_for limit groups key now) refl) (rw (e, f) at is) complete),
    )

pub part_begins : (limit : ℕ) (groups : List Group) (packet : PacketParts) (now : ℕ) → begins_group limit groups packet now ≡ true → is_whole packet ≡ false
part_begins limit groups packet now is = go (is_whole packet) refl is
  where
    go : (all : Bool) → is_whole packet ≡ all → (not all && not (is_bad packet) && is_beginning (found_for limit groups (key_of packet) now)) ≡ true → is_whole packet ≡ false
    go true e is = cc
    go false e is = e

-- what is kept by the beginning of a group, too
pub kept_after : (limit : ℕ) (groups : List Group) (packet : PacketParts) (now : ℕ) (Hold : List Group → Type 0) → AreDistinct groups → Hold groups → ((groups : List Group) (place : ℕ) → Hold groups → Hold (remove groups place))
    → (is_whole packet ≡ false → (place : ℕ) (group : Group) → has_key (key_of packet) group ≡ true → slice_get groups place ≡ Some group → is_over limit now group ≡ false
    → Hold (slice_set groups place (group_with group (piece_of packet now))))
    → ((groups : List Group) → Hold groups → Hold (with_room groups))
    → (is_whole packet ≡ false → (others : List Group) → IsAbsent (key_of packet) others → Hold others → Hold (others ++ record { key = key_of packet; pieces = piece_of packet now ∷ [] } ∷ []))
    → Hold (groups_after limit groups packet now)
kept_after limit groups packet now Hold distinct all removed put room push =
    let both = after_other limit groups packet now Hold Hold all (λ place there. removed groups place all)
    (λ part place group there got over. put part place group (passes_found (has_key (key_of packet)) groups group (found_place (has_key (key_of packet)) groups place there ∙ got)) got over)
    (λ is others found standing. room others standing)
    (λ is others found standing. push (part_begins limit groups packet now is) (with_room others) (each_room (HasOther (key_of packet)) others (begins_absent limit groups others (key_of packet) now distinct found)) (room others standing)) in
    ⊎_elim
    (λ (is : begins_group limit groups packet now ≡ true). both.0 is)
    (λ (is : begins_group limit groups packet now ≡ false). both.1 is)
    (cases_Bool (begins_group limit groups packet now))

-- a packet that is or completes a datagram leaves no group of its key
pub whole_leaves_none : (limit : ℕ) (groups : List Group) (packet : PacketParts) (now : ℕ) (octets : List ℕ) (was_joined : Bool) (Holds : Group → Type 0) → AreDistinct groups → EachGroup Holds groups
    → fate limit groups packet now ≡ whole octets was_joined → IsAbsent (key_of packet) (groups_after limit groups packet now) × EachGroup Holds (groups_after limit groups packet now)
unfolding fate groups_after IsFoundIn
whole_leaves_none limit groups packet now octets was_joined Holds distinct each is = go (is_whole packet) (is_bad packet) (datagram_with limit groups packet now) refl refl refl
  where
    key : DatagramKey
    key = key_of packet

    removed : (place : ℕ) → place_of key groups ≡ Some place → IsAbsent key (remove groups place) × EachGroup Holds (remove groups place)
    removed place there = (removed_absent key groups place distinct there, each_remove Holds groups place each)

    without : (place : Option ℕ) → place_of key groups ≡ place → IsAbsent key (without_group groups place) × EachGroup Holds (without_group groups place)
    without None none = (place_absent key groups none, each)
    without (Some place) there = removed place there

    completed : (found : Found) → found_for limit groups key now ≡ found → IsAbsent key (groups_with groups key (piece_of packet now) found true) × EachGroup Holds (groups_with groups key (piece_of packet now) found true)
    completed (joins place group) is = removed place (found_in limit groups key now (joins place group) is).0
    completed (begins others) is = (each_room (HasOther key) others (begins_absent limit groups others key now distinct is), each_room Holds others (begins_from limit groups others key now is (EachGroup Holds) each (λ place there. each_remove Holds groups place each)))

    go : (all bad : Bool) (datagram : Option (List ℕ)) → is_whole packet ≡ all → is_bad packet ≡ bad → datagram_with limit groups packet now ≡ datagram
        → IsAbsent key (groups_after limit groups packet now) × EachGroup Holds (groups_after limit groups packet now)
    go true bad datagram e f g = rw e (without (place_of key groups) refl)
    go false true datagram e f g = let never = rw (e, f) at is in cc
    go false false None e f g = let never = rw (e, f, g) at is in cc
    go false false (Some all) e f g = rw (e, f, g) (completed (found_for limit groups key now) refl)

-- ---- a packet of another key, and the group of ours

-- the number of groups that began later, as it is
pub stands_exactly : (key : DatagramKey) (pieces : List Piece) (n : ℕ) (groups : List Group) → Stands key pieces n groups → Stands key pieces (begun_since key groups) groups
stands_exactly key pieces n [] stands = absurd stands
stands_exactly key pieces n (group ∷ groups) (inl here) =
    let ours : has_key key group ≡ true = ap (λ (g : Group). is_same_key g.key key) here.0 ∙ key_itself key in
    inl (here.0, rw ours (omega arith))
stands_exactly key pieces n (group ∷ groups) (inr later) =
    inr (later.0, subst (λ (m : ℕ). Stands key pieces m groups) (sym (since_others key group groups later.0)) (stands_exactly key pieces n groups later.1))
  where
    since_others : (key : DatagramKey) (group : Group) (groups : List Group) → has_key key group ≡ false → begun_since key (group ∷ groups) ≡ begun_since key groups
    since_others key group groups other = rw other refl

pub stands_after : (limit : ℕ) (key : DatagramKey) (pieces : List Piece) (n : ℕ) (groups : List Group) (packet : PacketParts) (now : ℕ) → is_same_key (key_of packet) key ≡ false
    → Stands key pieces n groups
    → (begins_group limit groups packet now ≡ true → begun_meanwhile limit groups key packet now < 3
    → Stands key pieces (suc (begun_meanwhile limit groups key packet now)) (groups_after limit groups packet now))
    × (begins_group limit groups packet now ≡ false → Stands key pieces n (groups_after limit groups packet now))
stands_after limit key pieces n groups packet now other stands =
    let differ = other_way (key_of packet) key other in
    let m : ℕ = begun_meanwhile limit groups key packet now in
    after_other limit groups packet now (Stands key pieces n) (λ after. begun_meanwhile limit groups key packet now < 3 → Stands key pieces (suc (begun_meanwhile limit groups key packet now)) after) stands
    (λ place there. stands_remove key (key_of packet) pieces n groups place differ stands there)
    (λ part place group there got over. stands_set key (key_of packet) pieces n groups place group (piece_of packet now) differ stands there got)
    (λ is others found standing few. stands_more key pieces m (suc m) (with_room others) (omega arith) (stands_there others found standing few))
    (λ is others found standing few. stands_push key pieces m (with_room others) (record { key = key_of packet; pieces = piece_of packet now ∷ [] }) (stands_there others found standing few))
  where
    stands_there : (others : List Group) → found_for limit groups (key_of packet) now ≡ begins others → Stands key pieces n others → begun_meanwhile limit groups key packet now < 3
        → Stands key pieces (begun_meanwhile limit groups key packet now) (with_room others)
    stands_there others found standing few =
        let e : begun_since key others ≡ begun_meanwhile limit groups key packet now = sym (ap (λ (f : Found). begun_since key (others_in f)) found) in
        stands_room key pieces (begun_meanwhile limit groups key packet now) others few (subst (λ (m : ℕ). Stands key pieces m others) e (stands_exactly key pieces n others standing))

-- ---- offers after offers

pub offers_join : (limit : ℕ) (groups : List Group) (later earlier : List Offer) → groups_after_offers limit groups (later ++ earlier) ≡ groups_after_offers limit (groups_after_offers limit groups earlier) later
offers_join limit groups [] earlier = refl
offers_join limit groups (offer ∷ later) earlier = ap (λ groups. groups_after limit groups offer.packet offer.time) (offers_join limit groups later earlier)
