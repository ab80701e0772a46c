-- An identification that wasn't used within the limit finds no group, or one that is over.
use Rattle.std.proofs.Common.{◌≡◌, ◌∙◌, ap, sym, subst, ℕ, ◌+◌, ◌<◌, inl, inr, Bool, true, false, List, [], ◌∷◌, ◌++◌, remove, Option, None, Some, refl, arith}
use Rattle.std.specs.Prelude.{◌⊎◌, slice_get, slice_set}
use Rattle.std.proofs.lemmas.Bool.{both_ways, lt-ltb}
use Rattle.es_base.specs.declared.fragment.DatagramKey.{DatagramKey}
use Rattle.es_base.specs.Age.{elapsed}
use Rattle.link_rules.specs.Fragments.{Piece, key_of, piece_of}
use Rattle.link_rules.specs.Groups.{Found, Group, begin_of, begin_or, begins, found_at, found_for, found_if, group_with, groups_after, has_key, is_over, is_same_key, joins, place_of, with_room}
use Rattle.es_base.proofs.Firsts.{found_at as found_place, passes_found}
use Rattle.datagram_delivery.specs.Splitting.{Offer, groups_after_offers, is_of, none_in_parts, is_beginning}
use Rattle.datagram_delivery.specs.Datagrams.{IsUnused}
use Rattle.datagram_delivery.proofs.Standing.{AreDistinct, EachGroup, IsAbsent, distinct_remove, distinct_set, each_at, each_more, each_push, each_remove, each_room, each_set, room_kept, offers_join, begins_absent, distinct_push, kept_after}

-- ---- where a group comes from

abbrev pub IsAmong : Offer → List Offer → Type 0
IsAmong offer [] = ⊥
IsAmong offer (other ∷ before) = (other ≡ offer) ⊎ IsAmong offer before

abbrev pub are_some : List Piece → Bool
are_some [] = false
are_some (piece ∷ earlier) = true

-- it began with one of these offers
pub record Begun (before : List Offer) (group : Group) : Type 0 where
  pub offer : Offer
  pub among : IsAmong offer before
  pub key : group.key ≡ key_of offer.packet
  pub some : are_some group.pieces ≡ true
  pub begin : begin_of group ≡ offer.time

-- each began with one of these offers, and no two have one key
abbrev pub AreBegun : List Offer → List Group → Type 0
AreBegun before groups = EachGroup (Begun before) groups × AreDistinct groups

begun_later : (offer : Offer) (before : List Offer) (groups : List Group) → AreBegun before groups → AreBegun (offer ∷ before) groups
begun_later offer before groups have = (
  each_more (Begun before) (Begun (offer ∷ before)) groups (λ group o. record { offer = o.offer; among = inr o.among; key = o.key; some = o.some; begin = o.begin }) have.0,
  have.1,
)

pub begun_remove : (before : List Offer) (groups : List Group) (i : ℕ) → AreBegun before groups → AreBegun before (remove groups i)
begun_remove before groups i have = (each_remove (Begun before) groups i have.0, distinct_remove groups i have.1)

begun_set : (before : List Offer) (groups : List Group) (i : ℕ) (group : Group) (piece : Piece) → AreBegun before groups → slice_get groups i ≡ Some group → Begun before (group_with group piece)
    → AreBegun before (slice_set groups i (group_with group piece))
begun_set before groups i group piece have at o = (each_set (Begun before) groups i (group_with group piece) have.0 o, distinct_set groups i group piece have.1 at)

begun_room : (before : List Offer) (groups : List Group) → AreBegun before groups → AreBegun before (with_room groups)
begun_room before groups have = (each_room (Begun before) groups have.0, room_kept AreDistinct (λ group groups all. all.1) groups have.1)

begun_push : (before : List Offer) (groups : List Group) (group : Group) → AreBegun before groups → IsAbsent group.key groups → Begun before group → AreBegun before (groups ++ group ∷ [])
begun_push before groups group have absent o = (each_push (Begun before) groups group have.0 o, distinct_push groups group have.1 absent)

-- ---- the groups after offers

pub begin_same : (one two : ℕ) (pieces : List Piece) → are_some pieces ≡ true → begin_or one pieces ≡ begin_or two pieces
begin_same one two [] some = cc
begin_same one two (piece ∷ earlier) some = refl

begun_after : (limit : ℕ) (offer : Offer) (before : List Offer) (groups : List Group) → AreBegun before groups → AreBegun (offer ∷ before) (groups_after limit groups offer.packet offer.time)
begun_after limit offer before groups have =
    let kept = begun_later offer before groups have in
    kept_after limit groups offer.packet offer.time (AreBegun (offer ∷ before)) have.1 kept (begun_remove (offer ∷ before))
    (λ part place group ours got over.
    let o = each_at (Begun (offer ∷ before)) groups place group kept.0 got in
    begun_set (offer ∷ before) groups place group (piece_of offer.packet offer.time) kept got (record { offer = o.offer; among = o.among; key = o.key; some = refl; begin = begin_same offer.time 0 group.pieces o.some ∙ o.begin }))
    (begun_room (offer ∷ before))
    (λ part others absent standing. begun_push (offer ∷ before) others (record { key = key_of offer.packet; pieces = piece_of offer.packet offer.time ∷ [] }) standing absent (record { offer = offer; among = inl refl; key = refl; some = refl; begin = refl }))

pub all_begun : (limit : ℕ) (offers : List Offer) → AreBegun offers (groups_after_offers limit [] offers)
all_begun limit [] = (tt, tt)
all_begun limit (offer ∷ before) = begun_after limit offer before (groups_after_offers limit [] before) (all_begun limit before)

pub distinct_all : (limit : ℕ) (earlier offers : List Offer) → AreDistinct (groups_after_offers limit (groups_after_offers limit [] earlier) offers)
distinct_all limit earlier offers = subst AreDistinct (offers_join limit [] offers earlier) (all_begun limit (offers ++ earlier)).1

-- ---- a key that wasn't used within the limit

pub unused_at : (limit : ℕ) (key : DatagramKey) (time : ℕ) (offer : Offer) (before : List Offer) → IsUnused limit key time before → IsAmong offer before → is_of key offer ≡ true → offer.time + limit < time
unused_at limit key time offer [] unused among is = absurd among
unused_at limit key time offer (other ∷ before) unused (inl same) is = subst (λ (o : Offer). is_of key o ≡ true → o.time + limit < time) same unused.0 is
unused_at limit key time offer (other ∷ before) unused (inr among) is = unused_at limit key time offer before unused.1 among is

-- it is free
pub unused_is_free : (limit : ℕ) (key : DatagramKey) (now : ℕ) (before : List Offer) → IsUnused limit key now before → none_in_parts limit (groups_after_offers limit [] before) key now ≡ true
unused_is_free limit key now before unused = at (place_of key groups) refl
  where
    groups : List Group
    groups = groups_after_offers limit [] before

    got : (place : ℕ) → place_of key groups ≡ Some place → (group : Option Group) → slice_get groups place ≡ group → is_beginning (found_if limit groups now place group) ≡ true
    got place there None is = refl
    got place there (Some group) is =
        let o = each_at (Begun before) groups place group (all_begun limit before).0 is in
        let ours : has_key key group ≡ true = passes_found (has_key key) groups group (found_place (has_key key) groups place there ∙ is) in
        let of : is_of key o.offer ≡ true = ap (λ (k : DatagramKey). is_same_key k key) (sym o.key) ∙ ours in
        let old : o.offer.time + limit < now = unused_at limit key now o.offer before unused o.among of in
        let begin = o.begin in
        let over : is_over limit now group ≡ true = lt-ltb limit (elapsed now (begin_of group)) (omega (arith, old, begin)) in
        rw over refl

    at : (place : Option ℕ) → place_of key groups ≡ place → is_beginning (found_at limit groups now place) ≡ true
    at None is = refl
    at (Some place) is = got place is (slice_get groups place) refl

-- a key that is free begins a group, and no other of the key stands
pub record BeginsAlone (limit : ℕ) (before : List Offer) (key : DatagramKey) (now : ℕ) : Type 0 where
  pub others : List Group
  pub found : found_for limit (groups_after_offers limit [] before) key now ≡ begins others
  pub absent : IsAbsent key others

pub free_begins : (limit : ℕ) (key : DatagramKey) (now : ℕ) (before : List Offer) → none_in_parts limit (groups_after_offers limit [] before) key now ≡ true → BeginsAlone limit before key now
free_begins limit key now before free = go (found_for limit groups key now) refl
  where
    groups : List Group
    groups = groups_after_offers limit [] before

    go : (found : Found) → found_for limit groups key now ≡ found → BeginsAlone limit before key now
    go (joins place group) is = absurd (both_ways (is_beginning (found_for limit groups key now)) (ap is_beginning is) free)
    go (begins others) is = record { others = others; found = is; absent = begins_absent limit groups others key now (all_begun limit before).1 is }
