-- Each group has parts of one datagram.
use Rattle.std.proofs.Common.{◌≡◌, ◌∙◌, ap, sym, subst, ℕ, ◌+◌, ◌<◌, ◌≤◌, inl, inr, Bool, true, false, not, List, [], ◌∷◌, length, take, drop, Option, None, Some, refl, arith}
use Rattle.std.specs.Prelude.{◌==◌, ◌&&◌, ◌⊎◌, slice_get}
use Rattle.std.proofs.lemmas.Bool.{eqb-true, ltb-false}
use Rattle.es_base.specs.declared.fragment.DatagramKey.{DatagramKey}
use Rattle.es_base.specs.Packet.{PacketParts}
use Rattle.es_base.specs.Age.{elapsed}
use Rattle.link_rules.specs.Fragments.{is_bad, is_whole, key_of, piece_of, Piece}
use Rattle.link_rules.specs.Groups.{Found, Group, bad, begin_of, begins, datagram_with, fate, fate_if, found_for, group_with, groups_after, has_key, is_over, is_same_key, joins, pieces_with, whole}
use Rattle.datagram_delivery.specs.Splitting.{Offer, groups_after_offers, is_of}
use Rattle.datagram_delivery.specs.Datagrams.{IsUnused}
use Rattle.datagram_delivery.specs.Parts.{IsPartOf}
use Rattle.datagram_delivery.proofs.Standing.{AreDistinct, EachGroup, each_at, each_more, each_push, each_remove, each_room, each_set, joins_from, kept_after}
use Rattle.datagram_delivery.proofs.Unused.{Begun, all_begun, are_some, begin_same, distinct_all, unused_at}
use Rattle.datagram_delivery.proofs.Rows.{AreSlices, IsSlice, made_is, take_all}

-- an offer, and the datagram of which it has a part
pub record Part : Type 0 where
  pub offer : Offer
  pub datagram : List ℕ

abbrev pub offers_in : List Part → List Offer
offers_in [] = []
offers_in (part ∷ before) = part.offer ∷ offers_in before

abbrev pub AgreeWith : ℕ → Part → Part → Type 0
AgreeWith limit later earlier =
    is_whole later.offer.packet ≡ false → is_whole earlier.offer.packet ≡ false → is_same_key (key_of earlier.offer.packet) (key_of later.offer.packet) ≡ true → later.offer.time ≤ earlier.offer.time + limit
    → earlier.datagram ≡ later.datagram

abbrev pub Agree : ℕ → Part → List Part → Type 0
Agree limit part [] = Unit {0}
Agree limit part (earlier ∷ before) = AgreeWith limit part earlier × Agree limit part before

-- the keys of fragments weren't used among old offers within the limit
abbrev pub AreUnused : ℕ → List Offer → List Part → Type 0
AreUnused limit old [] = Unit {0}
AreUnused limit old (part ∷ before) = (is_whole part.offer.packet ≡ false → IsUnused limit (key_of part.offer.packet) part.offer.time old) × AreUnused limit old before

abbrev pub AreParts : ℕ → List Part → Type 0
AreParts limit [] = Unit {0}
AreParts limit (part ∷ before) = IsPartOf part.datagram part.offer.packet × Agree limit part before × AreParts limit before

-- ---- where a group comes from

abbrev pub IsAmong : Part → List Part → Type 0
IsAmong part [] = ⊥
IsAmong part (other ∷ before) = (other ≡ part) ⊎ IsAmong part before

agree_at : (limit : ℕ) (later earlier : Part) (before : List Part) → Agree limit later before → IsAmong earlier before → AgreeWith limit later earlier
agree_at limit later earlier [] agree among = absurd among
agree_at limit later earlier (other ∷ before) agree (inl same) = subst (λ (part : Part). AgreeWith limit later part) same agree.0
agree_at limit later earlier (other ∷ before) agree (inr among) = agree_at limit later earlier before agree.1 among

-- it began with one of these parts, a fragment, and has pieces of its datagram
record Origin (before : List Part) (group : Group) : Type 0 where
  part : Part
  among : IsAmong part before
  fragment : is_whole part.offer.packet ≡ false
  key : group.key ≡ key_of part.offer.packet
  some : are_some group.pieces ≡ true
  begin : begin_of group ≡ part.offer.time
  slices : AreSlices part.datagram group.pieces

-- or it began with an old offer
abbrev From : List Offer → List Part → Group → Type 0
From old before group = Begun old group ⊎ Origin before group

abbrev HaveOrigins : List Offer → List Part → List Group → Type 0
HaveOrigins old before groups = EachGroup (From old before) groups

from_later : (old : List Offer) (part : Part) (before : List Part) (group : Group) → From old before group → From old (part ∷ before) group
from_later old part before group (inl begun) = inl begun
from_later old part before group (inr o) = inr (record { part = o.part; among = inr o.among; fragment = o.fragment; key = o.key; some = o.some; begin = o.begin; slices = o.slices })

origins_later : (old : List Offer) (part : Part) (before : List Part) (groups : List Group) → HaveOrigins old before groups → HaveOrigins old (part ∷ before) groups
origins_later old part before groups have = each_more (From old before) (From old (part ∷ before)) groups (λ group from. from_later old part before group from) have

-- ---- a piece

slice_of_part : (part : Part) → IsPartOf part.datagram part.offer.packet → IsSlice part.datagram (piece_of part.offer.packet part.offer.time)
slice_of_part part is = record { within = is.within; octets = is.octets; ends = is.ends }

-- the group that a part joins began with a part of its datagram
record Joined (part : Part) (before : List Part) (group : Group) : Type 0 where
  origin : Origin before group
  same : origin.part.datagram ≡ part.datagram

joined_from : (limit : ℕ) (old : List Offer) (part : Part) (before : List Part) (group : Group) → is_whole part.offer.packet ≡ false → IsUnused limit (key_of part.offer.packet) part.offer.time old → Agree limit part before → From old before group
    → has_key (key_of part.offer.packet) group ≡ true → is_over limit part.offer.time group ≡ false → Joined part before group
joined_from limit old part before group fragment unused agree (inl b) is not_over =
    let of : is_of (key_of part.offer.packet) b.offer ≡ true = ap (λ (key : DatagramKey). is_same_key key (key_of part.offer.packet)) (sym b.key) ∙ is in
    let past : b.offer.time + limit < part.offer.time = unused_at limit (key_of part.offer.packet) part.offer.time b.offer old unused b.among of in
    let not_late : elapsed part.offer.time (begin_of group) ≤ limit = ltb-false limit (elapsed part.offer.time (begin_of group)) not_over in
    let begin = b.begin in
    absurd (omega (arith, past, not_late, begin))
joined_from limit old part before group fragment unused agree (inr o) is not_over =
    let same : is_same_key (key_of o.part.offer.packet) (key_of part.offer.packet) ≡ true = ap (λ (key : DatagramKey). is_same_key key (key_of part.offer.packet)) (sym o.key) ∙ is in
    let not_late : elapsed part.offer.time (begin_of group) ≤ limit = ltb-false limit (elapsed part.offer.time (begin_of group)) not_over in
    let begin = o.begin in
    let soon : part.offer.time ≤ o.part.offer.time + limit = omega (arith, not_late, begin) in
    record { origin = o; same = agree_at limit part o.part before agree o.among fragment o.fragment same soon }

joined_slices : (limit : ℕ) (old : List Offer) (part : Part) (before : List Part) (groups : List Group) (place : ℕ) (group : Group) → is_whole part.offer.packet ≡ false → IsUnused limit (key_of part.offer.packet) part.offer.time old
    → Agree limit part before → HaveOrigins old before groups → slice_get groups place ≡ Some group → has_key (key_of part.offer.packet) group ≡ true → is_over limit part.offer.time group ≡ false
    → AreSlices part.datagram group.pieces
joined_slices limit old part before groups place group fragment unused agree have got is not_over =
    let j = joined_from limit old part before group fragment unused agree (each_at (From old before) groups place group have got) is not_over in
    subst (λ (datagram : List ℕ). AreSlices datagram group.pieces) j.same j.origin.slices

joined_origin : (limit : ℕ) (old : List Offer) (part : Part) (before : List Part) (groups : List Group) (place : ℕ) (group : Group) → IsPartOf part.datagram part.offer.packet
    → is_whole part.offer.packet ≡ false → IsUnused limit (key_of part.offer.packet) part.offer.time old → Agree limit part before → HaveOrigins old before groups
    → slice_get groups place ≡ Some group → has_key (key_of part.offer.packet) group ≡ true → is_over limit part.offer.time group ≡ false
    → Origin (part ∷ before) (group_with group (piece_of part.offer.packet part.offer.time))
joined_origin limit old part before groups place group is_part fragment unused agree have got is not_over =
    let j = joined_from limit old part before group fragment unused agree (each_at (From old before) groups place group have got) is not_over in
    let o = j.origin in
    record {
      part = o.part;
      among = inr o.among;
      fragment = o.fragment;
      key = o.key;
      some = refl;
      begin = begin_same part.offer.time 0 group.pieces o.some ∙ o.begin;
      slices = (subst (λ (datagram : List ℕ). IsSlice datagram (piece_of part.offer.packet part.offer.time)) (sym j.same) (slice_of_part part is_part), o.slices);
    }

new_origin : (part : Part) (before : List Part) → IsPartOf part.datagram part.offer.packet → is_whole part.offer.packet ≡ false → Origin (part ∷ before) (record { key = key_of part.offer.packet; pieces = piece_of part.offer.packet part.offer.time ∷ [] })
new_origin part before is_part fragment = record { part = part; among = inl refl; fragment = fragment; key = refl; some = refl; begin = refl; slices = (slice_of_part part is_part, tt) }

-- ---- the groups after a part

origins_after : (limit : ℕ) (old : List Offer) (part : Part) (before : List Part) (groups : List Group) → IsPartOf part.datagram part.offer.packet
    → (is_whole part.offer.packet ≡ false → IsUnused limit (key_of part.offer.packet) part.offer.time old) → Agree limit part before → AreDistinct groups → HaveOrigins old before groups
    → HaveOrigins old (part ∷ before) (groups_after limit groups part.offer.packet part.offer.time)
origins_after limit old part before groups is_part unused agree distinct have =
    let Holds : Group → Type 0 = From old (part ∷ before) in
    let kept = origins_later old part before groups have in
    let piece : Piece = piece_of part.offer.packet part.offer.time in
    kept_after limit groups part.offer.packet part.offer.time (EachGroup Holds) distinct kept (each_remove Holds)
    (λ fragment place group ours got over. each_set Holds groups place (group_with group piece) kept (inr (joined_origin limit old part before groups place group is_part fragment (unused fragment) agree have got ours over)))
    (each_room Holds) (λ fragment others absent standing. each_push Holds others (record { key = key_of part.offer.packet; pieces = piece ∷ [] }) standing (inr (new_origin part before is_part fragment)))

all_origins : (limit : ℕ) (old : List Offer) (parts : List Part) → AreParts limit parts → AreUnused limit old parts
    → HaveOrigins old parts (groups_after_offers limit (groups_after_offers limit [] old) (offers_in parts))
all_origins limit old [] are unused = each_more (Begun old) (From old []) (groups_after_offers limit [] old) (λ group begun. inl begun) (all_begun limit old).0
all_origins limit old (part ∷ before) are unused =
    origins_after limit old part before (groups_after_offers limit (groups_after_offers limit [] old) (offers_in before)) are.0 unused.0 are.1 (distinct_all limit old (offers_in before)) (all_origins limit old before are.2 unused.1)

-- ---- what is handed on

found_slices : (limit : ℕ) (old : List Offer) (part : Part) (before : List Part) (groups : List Group) (found : Found) → IsPartOf part.datagram part.offer.packet → is_whole part.offer.packet ≡ false → IsUnused limit (key_of part.offer.packet) part.offer.time old → Agree limit part before
    → HaveOrigins old before groups → found_for limit groups (key_of part.offer.packet) part.offer.time ≡ found → AreSlices part.datagram (pieces_with (piece_of part.offer.packet part.offer.time) found)
found_slices limit old part before groups (joins place group) is_part fragment unused agree have found =
    let (ours, got, over) = joins_from limit groups group (key_of part.offer.packet) part.offer.time place found in
    (slice_of_part part is_part, joined_slices limit old part before groups place group fragment unused agree have got ours over)
found_slices limit old part before groups (begins others) is_part fragment unused agree have found = (slice_of_part part is_part, tt)

whole_part : (datagram : List ℕ) (packet : PacketParts) → IsPartOf datagram packet → is_whole packet ≡ true → packet.octets ≡ datagram
whole_part datagram packet is full = go (packet.offset == 0) packet.more refl refl full
  where
    go : (first more : Bool) → (packet.offset == 0) ≡ first → packet.more ≡ more → (first && not more) ≡ true → packet.octets ≡ datagram
    go false more e f all = cc
    go true true e f all = cc
    go true false e f all =
        let start : packet.offset ≡ 0 = eqb-true packet.offset 0 e in
        let end = is.ends f in
        let long : length packet.octets ≡ length datagram = omega (arith, start, end) in
        is.octets ∙ ap (λ (n : ℕ). take (length packet.octets) (drop n datagram)) start ∙ ap (λ (n : ℕ). take n datagram) long ∙ take_all datagram

pub handed_on_is_sent : (limit : ℕ) (old : List Offer) (part : Part) (before : List Part) (octets : List ℕ) (joined : Bool) → AreParts limit (part ∷ before) → AreUnused limit old (part ∷ before)
    → fate limit (groups_after_offers limit (groups_after_offers limit [] old) (offers_in before)) part.offer.packet part.offer.time ≡ whole octets joined → octets ≡ part.datagram
unfolding fate
handed_on_is_sent limit old part before octets joined are unused is = go (is_whole packet) (is_bad packet) refl refl
  where
    packet : PacketParts
    packet = part.offer.packet

    now : ℕ
    now = part.offer.time

    groups : List Group
    groups = groups_after_offers limit (groups_after_offers limit [] old) (offers_in before)

    same_whole : (one two : List ℕ) (b c : Bool) → whole one b ≡ whole two c → one ≡ two
    same_whole one two b c e = cc

    made : is_whole packet ≡ false → (found : Option (List ℕ)) → datagram_with limit groups packet now ≡ found → fate_if found ≡ whole octets joined → octets ≡ part.datagram
    made fragment None e f = cc
    made fragment (Some all) e f =
        let same : all ≡ octets = same_whole all octets true joined f in
        sym same ∙ made_is part.datagram (pieces_with (piece_of packet now) (found_for limit groups (key_of packet) now)) all
        (found_slices limit old part before groups (found_for limit groups (key_of packet) now) are.0 fragment (unused.0 fragment) are.1 (all_origins limit old before are.2 unused.1) refl) e

    go : (all unfit : Bool) → is_whole packet ≡ all → is_bad packet ≡ unfit → octets ≡ part.datagram
    go true unfit e f = sym (same_whole packet.octets octets false joined (rw e at is)) ∙ whole_part part.datagram packet are.0 e
    go false true e f = let none : bad ≡ whole octets joined = rw (e, f) at is in cc
    go false false e f = made e (datagram_with limit groups packet now) refl (rw (e, f) at is)
