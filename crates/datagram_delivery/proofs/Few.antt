-- Where at most three other datagrams have a fragment meanwhile, or at most four are in parts at a time, a group isn't
-- given up.
use Rattle.std.proofs.Common.{◌≡◌, ◌∙◌, ap, sym, subst, ℕ, zero, suc, ◌<◌, ◌≤◌, inl, inr, ⊎_elim, Bool, true, false, List, [], ◌∷◌, ◌++◌, length, remove, Some, refl, arith, append-nil}
use Rattle.std.specs.Prelude.{◌&&◌, ◌||◌, not, ◌⊎◌, slice_get, slice_set, if◌then◌else◌}
use Rattle.std.proofs.lemmas.Bool.{and_right, both_ways, cases_Bool, or_cases, or_left, or_right}
use Rattle.std.proofs.lemmas.Option.{same_Some}
use Rattle.es_base.specs.declared.fragment.DatagramKey.{DatagramKey}
use Rattle.link_rules.specs.Fragments.{Piece, is_bad, is_whole, key_of, piece_of}
use Rattle.link_rules.specs.Groups.{Found, Group, begins, found_at, found_for, group_with, groups_after, has_key, is_same_key, joins, with_room}
use Rattle.link_rules.proofs.Keys.{key_itself, same_key}
use Rattle.frame_delivery.proofs.Cases.{by_if}
use Rattle.datagram_delivery.specs.Splitting.{Offer, begins_group, begun_meanwhile, begun_since, groups_after_offers, is_among, is_beginning, is_of, keys_in_parts, none_in_parts, pieces_of, other_keys, others_in, with_key, without_key, AreFewInParts, LeavesRoom}
use Rattle.link_rules.specs.Outcome.{Payload}
use Rattle.es_base.specs.Settings.{Settings}
use Rattle.datagram_delivery.specs.Datagrams.{Completes, KeepsPlace, IsInParts}
use Rattle.datagram_delivery.specs.Interleaved.{AreInterleaved, Carried, SendsNext, carried_offers}
use Rattle.datagram_delivery.proofs.Unused.{all_begun, free_begins, distinct_all}
use Rattle.datagram_delivery.proofs.Standing.{AreDistinct, EachGroup, HasOther, IsAbsent, distinct_remove, each_at, each_more, each_push, each_remove, each_room, each_set, room_kept, absent_place, begins_absent, begins_from, kept_after, part_begins, whole_leaves_none, offers_join}
use Rattle.datagram_delivery.proofs.Splits.{first_groups, state_joins, in_parts}
use Rattle.datagram_delivery.proofs.Offered.{completed_fate}

-- ---- keys among some

abbrev IsAmong : DatagramKey → List DatagramKey → Type 0
IsAmong key [] = ⊥
IsAmong key (other ∷ keys) = (is_same_key other key ≡ true) ⊎ IsAmong key keys

among_without : (one key : DatagramKey) (keys : List DatagramKey) → is_same_key one key ≡ false → IsAmong one keys → IsAmong one (without_key key keys)
among_without one key [] differ among = absurd among
among_without one key (first ∷ keys) differ (inl is) =
    let e : first ≡ one = same_key first one is in
    let other : is_same_key first key ≡ false = ap (λ (k : DatagramKey). is_same_key k key) e ∙ differ in
    rw other (inl is)
among_without one key (first ∷ keys) differ (inr later) =
    ⊎_elim
    (λ (same : is_same_key first key ≡ true). rw same later)
    (λ (other : is_same_key first key ≡ false). rw other (inr (among_without one key keys differ later)))
    (cases_Bool (is_same_key first key))

-- ---- keys of groups among some

abbrev HasKeyAmong : List DatagramKey → Group → Type 0
HasKeyAmong keys group = IsAmong group.key keys

abbrev AreAmong : List DatagramKey → List Group → Type 0
AreAmong keys groups = EachGroup (HasKeyAmong keys) groups

-- the groups that began after that of a key have keys among these
abbrev AreBehind : DatagramKey → List DatagramKey → List Group → Type 0
AreBehind key keys [] = Unit {0}
AreBehind key keys (group ∷ groups) = (has_key key group ≡ true → AreAmong keys groups) × AreBehind key keys groups

behind_none : (key : DatagramKey) (groups : List Group) → IsAbsent key groups → AreBehind key [] groups
behind_none key [] absent = tt
behind_none key (group ∷ groups) absent = (λ is. absurd (both_ways (has_key key group) absent.0 is), behind_none key groups absent.1)

behind_more : (key : DatagramKey) (keys : List DatagramKey) (one : DatagramKey) (groups : List Group) → AreBehind key keys groups → AreBehind key (one ∷ keys) groups
behind_more key keys one [] behind = tt
behind_more key keys one (group ∷ groups) behind = (λ is. each_more (HasKeyAmong keys) (HasKeyAmong (one ∷ keys)) groups (λ group among. inr among) (behind.0 is), behind_more key keys one groups behind.1)

behind_remove : (key : DatagramKey) (keys : List DatagramKey) (groups : List Group) (i : ℕ) → AreBehind key keys groups → AreBehind key keys (remove groups i)
behind_remove key keys [] zero behind = tt
behind_remove key keys [] (suc i) behind = tt
behind_remove key keys (group ∷ groups) zero behind = behind.1
behind_remove key keys (group ∷ groups) (suc i) behind = (λ is. each_remove (HasKeyAmong keys) groups i (behind.0 is), behind_remove key keys groups i behind.1)

behind_set : (key : DatagramKey) (keys : List DatagramKey) (groups : List Group) (i : ℕ) (group : Group) (piece : Piece) → AreBehind key keys groups → slice_get groups i ≡ Some group
    → AreBehind key keys (slice_set groups i (group_with group piece))
behind_set key keys [] i group piece behind at = tt
behind_set key keys (first ∷ groups) zero group piece behind at = (λ is. behind.0 (ap (λ (g : Group). is_same_key g.key key) (same_Some first group at) ∙ is), behind.1)
behind_set key keys (first ∷ groups) (suc i) group piece behind at = (λ is. let among = behind.0 is in each_set (HasKeyAmong keys) groups i (group_with group piece) among (each_at (HasKeyAmong keys) groups i group among at), behind_set key keys groups i group piece behind.1 at)

behind_room : (key : DatagramKey) (keys : List DatagramKey) (groups : List Group) → AreBehind key keys groups → AreBehind key keys (with_room groups)
behind_room key keys groups behind = room_kept (AreBehind key keys) (λ group groups all. all.1) groups behind

-- a group of the key, where no other has it
behind_ours : (key : DatagramKey) (keys : List DatagramKey) (groups : List Group) (group : Group) → AreBehind key keys groups → IsAbsent key groups → AreBehind key keys (groups ++ group ∷ [])
behind_ours key keys [] group behind absent = (λ is. tt, tt)
behind_ours key keys (first ∷ groups) group behind absent = (λ is. absurd (both_ways (has_key key first) absent.0 is), behind_ours key keys groups group behind.1 absent.1)

-- a group of another key
behind_push : (key : DatagramKey) (keys : List DatagramKey) (groups : List Group) (group : Group) → AreBehind key keys groups → IsAmong group.key keys → AreBehind key keys (groups ++ group ∷ [])
behind_push key keys [] group behind is = (λ ours. tt, tt)
behind_push key keys (first ∷ groups) group behind is = (λ ours. each_push (HasKeyAmong keys) groups group (behind.0 ours) is, behind_push key keys groups group behind.1 is)

-- ---- after a packet

-- it is of the key, or the whole of a datagram, or of one of the other keys
IsCounted : DatagramKey → List DatagramKey → Offer → Type 0
IsCounted key keys offer = (is_of key offer ≡ true) ⊎ (is_whole offer.packet ≡ true) ⊎ IsAmong (key_of offer.packet) keys

behind_after : (limit : ℕ) (key : DatagramKey) (keys : List DatagramKey) (offer : Offer) (groups : List Group) → AreDistinct groups → AreBehind key keys groups → IsCounted key keys offer
    → AreBehind key keys (groups_after limit groups offer.packet offer.time)
unfolding IsCounted
behind_after limit key keys offer groups distinct behind counted =
    kept_after limit groups offer.packet offer.time (AreBehind key keys) distinct behind (behind_remove key keys)
    (λ part place group ours got over. behind_set key keys groups place group (piece_of offer.packet offer.time) behind got) (behind_room key keys) (pushed counted)
  where
    group : Group
    group = record { key = key_of offer.packet; pieces = piece_of offer.packet offer.time ∷ [] }

    pushed : (is_of key offer ≡ true) ⊎ (is_whole offer.packet ≡ true) ⊎ IsAmong (key_of offer.packet) keys → is_whole offer.packet ≡ false → (others : List Group) → IsAbsent (key_of offer.packet) others
        → AreBehind key keys others → AreBehind key keys (others ++ group ∷ [])
    pushed (inl ours) part others absent standing = behind_ours key keys others group standing (subst (λ (k : DatagramKey). IsAbsent k others) (same_key (key_of offer.packet) key ours) absent)
    pushed (inr (inl all)) part others absent standing = absurd (both_ways (is_whole offer.packet) part all)
    pushed (inr (inr among)) part others absent standing = behind_push key keys others group standing among

-- ---- the other keys

among_is : (key : DatagramKey) (keys : List DatagramKey) → is_among key keys ≡ true → IsAmong key keys
among_is key [] is = cc
among_is key (other ∷ keys) is =
    ⊎_elim
    (λ (here : is_same_key other key ≡ true). inl here)
    (λ (later : is_among key keys ≡ true). inr (among_is key keys later))
    (or_cases (is_same_key other key) (is_among key keys) is)

-- what some keys are after an offer, that were these before it
record Adds (key : DatagramKey) (offer : Offer) (keys after : List DatagramKey) : Type 0 where
  counted : IsCounted key after offer
  kept : (groups : List Group) → AreBehind key keys groups → AreBehind key after groups
  longer : length keys ≤ length after

adds : (key : DatagramKey) (offer : Offer) (before : List Offer) → Adds key offer (other_keys key before) (other_keys key (offer ∷ before))
unfolding IsCounted
adds key offer before = go (is_of key offer) (is_whole offer.packet) (is_among (key_of offer.packet) (other_keys key before)) refl refl refl
  where
    keys : List DatagramKey
    keys = other_keys key before

    go : (ours all old : Bool) → is_of key offer ≡ ours → is_whole offer.packet ≡ all → is_among (key_of offer.packet) (other_keys key before) ≡ old
        → Adds key offer (other_keys key before) (if ours || all || old then other_keys key before else key_of offer.packet ∷ other_keys key before)
    go true all old e f g = record { counted = inl e; kept = λ groups behind. behind; longer = omega arith }
    go false true old e f g = record { counted = inr (inl f); kept = λ groups behind. behind; longer = omega arith }
    go false false true e f g = record { counted = inr (inr (among_is (key_of offer.packet) keys g)); kept = λ groups behind. behind; longer = omega arith }
    go false false false e f g = record {
      counted = inr (inr (inl (key_itself (key_of offer.packet))));
      kept = λ groups behind. behind_more key keys (key_of offer.packet) groups behind;
      longer = omega arith;
    }

-- ---- no more groups with keys among some than there are keys

without_length : (key : DatagramKey) (keys : List DatagramKey) → IsAmong key keys → suc (length (without_key key keys)) ≡ length keys
without_length key [] among = absurd among
without_length key (other ∷ keys) among =
    ⊎_elim
    (λ (is : is_same_key other key ≡ true). rw is refl)
    (λ (is : is_same_key other key ≡ false). rw is (ap suc (without_length key keys (later is among))))
    (cases_Bool (is_same_key other key))
  where
    later : is_same_key other key ≡ false → IsAmong key (other ∷ keys) → IsAmong key keys
    later is (inl same) = absurd (both_ways (is_same_key other key) is same)
    later is (inr rest) = rest

among_others : (key : DatagramKey) (keys : List DatagramKey) (groups : List Group) → IsAbsent key groups → AreAmong keys groups → AreAmong (without_key key keys) groups
among_others key keys [] absent among = tt
among_others key keys (group ∷ groups) absent among = (among_without group.key key keys absent.0 among.0, among_others key keys groups absent.1 among.1)

at_most_keys : (keys : List DatagramKey) (groups : List Group) → AreDistinct groups → AreAmong keys groups → length groups ≤ length keys
at_most_keys keys [] distinct among = omega arith
at_most_keys keys (group ∷ groups) distinct among =
    let rest = at_most_keys (without_key group.key keys) groups distinct.1 (among_others group.key keys groups distinct.0 among.1) in
    let one = without_length group.key keys among.0 in
    omega (arith, rest, one)

begun_few : (key : DatagramKey) (keys : List DatagramKey) (new : DatagramKey) (groups : List Group) → AreBehind key keys groups → AreDistinct groups → IsAbsent new groups → IsAmong new keys
    → begun_since key groups < length keys
begun_few key keys new [] behind distinct absent among = let one = without_length new keys among in omega (arith, one)
begun_few key keys new (group ∷ groups) behind distinct absent among =
    ⊎_elim
    (λ (is : has_key key group ≡ true).
    let few = at_most_keys (without_key new keys) groups distinct.1 (among_others new keys groups absent.1 (behind.0 is)) in
    let one = without_length new keys among in
    rw is (omega (arith, few, one)))
    (λ (is : has_key key group ≡ false). rw is (begun_few key keys new groups behind.1 distinct.1 absent.1 among))
    (cases_Bool (has_key key group))

-- ---- all offers

behind_all : (limit : ℕ) (key : DatagramKey) (earlier : List Offer) (first : Offer) (during : List Offer) → IsInParts limit key earlier first during
    → AreBehind key (other_keys key (during ++ first ∷ [])) (groups_after_offers limit (groups_after_offers limit [] earlier) (during ++ first ∷ []))
behind_all limit key earlier first [] parts =
    let begun = free_begins limit key first.time earlier parts.free in
    let group : Group = record { key = key; pieces = piece_of first.packet first.time ∷ [] } in
    let roomy : IsAbsent key (with_room begun.others) = each_room (HasOther key) begun.others begun.absent in
    let is = first_groups limit key (groups_after_offers limit [] earlier) begun.others first (same_key (key_of first.packet) key parts.begins) begun.found (parts.fronts.0 parts.begins) in
    rw parts.begins (subst (AreBehind key []) (sym is) (behind_ours key [] (with_room begun.others) group (behind_none key (with_room begun.others) roomy) roomy))
behind_all limit key earlier first (offer ∷ during) parts =
    let ours : List Offer = during ++ first ∷ [] in
    let standing : List Group = groups_after_offers limit (groups_after_offers limit [] earlier) ours in
    let added = adds key offer ours in
    behind_after limit key (other_keys key (offer ∷ ours)) offer standing (distinct_all limit earlier ours)
    (added.kept standing (behind_all limit key earlier first during (record { begins = parts.begins; free = parts.free; fronts = parts.fronts.1 }))) added.counted

pub few_leave_room : (limit : ℕ) (key : DatagramKey) (earlier : List Offer) (first : Offer) (during : List Offer) → IsInParts limit key earlier first during → length (other_keys key (during ++ first ∷ [])) ≤ 3
    → KeepsPlace limit key earlier first during
unfolding IsCounted
few_leave_room limit key earlier first [] parts few = (λ other begun. absurd (both_ways (is_of key first) other parts.begins), tt)
few_leave_room limit key earlier first (offer ∷ during) parts few =
    let added = adds key offer ours in
    let longer = added.longer in
    (λ other begun. room other begun added, few_leave_room limit key earlier first during before (omega (arith, few, longer)))
  where
    ours : List Offer
    ours = during ++ first ∷ []

    before : IsInParts limit key earlier first during
    before = record { begins = parts.begins; free = parts.free; fronts = parts.fronts.1 }

    keys : List DatagramKey
    keys = other_keys key (offer ∷ ours)

    standing : List Group
    standing = groups_after_offers limit (groups_after_offers limit [] earlier) ours

    distinct : AreDistinct standing
    distinct = distinct_all limit earlier ours

    among : is_of key offer ≡ false → is_whole offer.packet ≡ false → IsCounted key keys offer → IsAmong (key_of offer.packet) keys
    among other part (inl ours) = absurd (both_ways (is_of key offer) other ours)
    among other part (inr (inl all)) = absurd (both_ways (is_whole offer.packet) part all)
    among other part (inr (inr is)) = is

    counted : (found : Found) → found_for limit standing (key_of offer.packet) offer.time ≡ found → AreBehind key keys standing → IsAmong (key_of offer.packet) keys → begun_since key (others_in found) < length keys
    counted (joins place group) found behind is = let one = without_length (key_of offer.packet) keys is in omega (arith, one)
    counted (begins others) found behind is =
        begun_few key keys (key_of offer.packet) others (begins_from limit standing others (key_of offer.packet) offer.time found (AreBehind key keys) behind (λ place there. behind_remove key keys standing place behind))
        (begins_from limit standing others (key_of offer.packet) offer.time found AreDistinct distinct (λ place there. distinct_remove standing place distinct))
        (begins_absent limit standing others (key_of offer.packet) offer.time distinct found) is

    room : is_of key offer ≡ false → begins_group limit standing offer.packet offer.time ≡ true → Adds key offer (other_keys key ours) keys → begun_meanwhile limit standing key offer.packet offer.time < 3
    room other begun added =
        let less = counted (found_for limit standing (key_of offer.packet) offer.time) refl (added.kept standing (behind_all limit key earlier first during before)) (among other (part_begins limit standing offer.packet offer.time begun) added.counted) in
        omega (arith, less, few)

-- ---- at most four in parts, as their sender counts them

from_among : (key : DatagramKey) (keys : List DatagramKey) → IsAmong key keys → is_among key keys ≡ true
from_among key [] among = absurd among
from_among key (other ∷ keys) (inl is) = or_left _ _ is
from_among key (other ∷ keys) (inr later) = or_right _ _ (from_among key keys later)

with_among : (key : DatagramKey) (keys : List DatagramKey) (groups : List Group) → AreAmong keys groups → IsAmong key (with_key key keys) × AreAmong (with_key key keys) groups
with_among key keys groups among =
    ⊎_elim
    (λ (is : is_among key keys ≡ true). rw is (among_is key keys is, among))
    (λ (new : is_among key keys ≡ false). rw new (inl (key_itself key), each_more (HasKeyAmong keys) (HasKeyAmong (key ∷ keys)) groups (λ group is. inr is) among))
    (cases_Bool (is_among key keys))

-- the groups that stand are of the keys in parts
sent_among : (settings : Settings) (carried : List Carried) → AreInterleaved settings [] carried → AreAmong (keys_in_parts (carried_offers carried)) (groups_after_offers settings.reassembly [] (carried_offers carried))
sent_among settings [] sends = tt
sent_among settings (carried ∷ before) sends =
    let limit : ℕ = settings.reassembly in
    let offer : Offer = carried.offer in
    let key : DatagramKey = key_of offer.packet in
    let keys : List DatagramKey = keys_in_parts (carried_offers before) in
    let groups : List Group = groups_after_offers limit [] (carried_offers before) in
    let distinct : AreDistinct groups = (all_begun limit (carried_offers before)).1 in
    let rest = sent_among settings before sends.1 in
    let next : SendsNext settings (carried_offers before) carried = subst (λ (offers : List Offer). SendsNext settings offers carried) (append-nil (carried_offers before)) sends.0 in
    by_if (λ (keys : List DatagramKey). AreAmong keys (groups_after limit groups offer.packet offer.time)) offer.packet.more (with_key key keys) (without_key key keys)
    (λ more.
    let (ours, all) = with_among key keys groups rest in
    let Holds : Group → Type 0 = HasKeyAmong (with_key key keys) in
    kept_after limit groups offer.packet offer.time (EachGroup Holds) distinct all (each_remove Holds)
    (λ part place group is got over. each_set Holds groups place (group_with group (piece_of offer.packet offer.time)) all (each_at Holds groups place group all got)) (each_room Holds)
    (λ part others absent standing. each_push Holds others (record { key = key; pieces = piece_of offer.packet offer.time ∷ [] }) standing ours))
    (λ last.
    let (octets, was_joined, is, admits) = completed_fate settings carried.payload (carried_offers before) offer (next.last last) in
    let (gone, all) = whole_leaves_none limit groups offer.packet offer.time octets was_joined (HasKeyAmong keys) distinct rest is in
    among_others key keys (groups_after limit groups offer.packet offer.time) gone all)

-- so another key is free, after any of the packets
pub sent_free : (settings : Settings) (carried : List Carried) (key : DatagramKey) (now : ℕ) (offers earlier : List Offer) → AreInterleaved settings [] carried → carried_offers carried ≡ offers ++ earlier
    → is_among key (keys_in_parts earlier) ≡ false → none_in_parts settings.reassembly (groups_after_offers settings.reassembly [] earlier) key now ≡ true
sent_free settings [] key now (offer ∷ offers) earlier sends is other = cc
sent_free settings (carried ∷ before) key now (offer ∷ offers) earlier sends is other =
    let same : carried_offers before ≡ offers ++ earlier = cc in sent_free settings before key now offers earlier sends.1 same other
sent_free settings carried key now [] earlier sends is other =
    let keys : List DatagramKey = keys_in_parts earlier in
    let groups : List Group = groups_after_offers settings.reassembly [] earlier in
    let among : AreAmong keys groups = subst (λ (offers : List Offer). AreAmong (keys_in_parts offers) (groups_after_offers settings.reassembly [] offers)) is (sent_among settings carried sends) in
    ap (λ place. is_beginning (found_at settings.reassembly groups now place)) (absent_place key groups (each_more (HasKeyAmong keys) (HasOther key) groups
    (λ group one.
    ⊎_elim
    (λ (is : has_key key group ≡ true). absurd (both_ways (is_among key keys) other (from_among key keys (subst (λ (k : DatagramKey). IsAmong k keys) (same_key group.key key is) one))))
    (λ (is : has_key key group ≡ false). is)
    (cases_Bool (has_key key group))) among))

begun_less : (key : DatagramKey) (groups : List Group) → length groups ≤ 3 → begun_since key groups < 3
begun_less key [] few = omega arith
begun_less key (group ∷ groups) few =
    ⊎_elim
    (λ (is : has_key key group ≡ true). rw is (omega (arith, few)))
    (λ (is : has_key key group ≡ false). rw is (begun_less key groups (omega (arith, few))))
    (cases_Bool (has_key key group))

ends_begin_none : (settings : Settings) (payload : Payload) (offers : List Offer) (last : Offer) → Completes settings payload offers last
    → begins_group settings.reassembly (groups_after_offers settings.reassembly [] offers) last.packet last.time ≡ false
ends_begin_none settings payload offers last (inl all) = rw all.whole refl
ends_begin_none settings payload offers last (inr split) =
    let limit : ℕ = settings.reassembly in
    let key : DatagramKey = key_of last.packet in
    let groups : List Group = groups_after_offers limit [] (split.during ++ split.first ∷ split.earlier) in
    ap (λ (offers : List Offer). begins_group limit (groups_after_offers limit [] offers) last.packet last.time) split.is
    ∙ and_right (not (is_whole last.packet) && not (is_bad last.packet)) _ (state_joins limit key (pieces_of key (split.during ++ split.first ∷ [])) (begun_since key groups) groups last.time
    (in_parts limit key split.earlier split.first split.during split.parts split.room) split.ends.next.soon)

-- and as another begins at most three stand
begins_few : (settings : Settings) (carried : Carried) (before : List Carried) (key : DatagramKey) → AreInterleaved settings [] (carried ∷ before) → length (keys_in_parts (carried_offers (carried ∷ before))) ≤ 4
    → begins_group settings.reassembly (groups_after_offers settings.reassembly [] (carried_offers before)) carried.offer.packet carried.offer.time ≡ true
    → begun_meanwhile settings.reassembly (groups_after_offers settings.reassembly [] (carried_offers before)) key carried.offer.packet carried.offer.time < 3
begins_few settings carried before key sends few begun =
    ⊎_elim
    (λ (more : carried.offer.packet.more ≡ true).
    let all = with_among new keys groups (sent_among settings before sends.1) in
    go (found_for settings.reassembly groups new carried.offer.time) refl all.0 all.1 (rw more at few))
    (λ (last : carried.offer.packet.more ≡ false).
    let next : SendsNext settings (carried_offers before) carried = subst (λ (offers : List Offer). SendsNext settings offers carried) (append-nil (carried_offers before)) sends.0 in
    absurd (both_ways (begins_group settings.reassembly groups carried.offer.packet carried.offer.time) (ends_begin_none settings carried.payload (carried_offers before) carried.offer (next.last last)) begun))
    (cases_Bool carried.offer.packet.more)
  where
    new : DatagramKey
    new = key_of carried.offer.packet

    keys : List DatagramKey
    keys = keys_in_parts (carried_offers before)

    groups : List Group
    groups = groups_after_offers settings.reassembly [] (carried_offers before)

    distinct : AreDistinct groups
    distinct = (all_begun settings.reassembly (carried_offers before)).1

    go : (found : Found) → found_for settings.reassembly groups new carried.offer.time ≡ found → IsAmong new (with_key new keys) → AreAmong (with_key new keys) groups → length (with_key new keys) ≤ 4 → begun_since key (others_in found) < 3
    go (joins place group) is ours all few = omega arith
    go (begins others) is ours all few =
        let Holds : Group → Type 0 = HasKeyAmong (with_key new keys) in
        let among = begins_from settings.reassembly groups others new carried.offer.time is (EachGroup Holds) all (λ place there. each_remove Holds groups place all) in
        let apart = begins_from settings.reassembly groups others new carried.offer.time is AreDistinct distinct (λ place there. distinct_remove groups place distinct) in
        let fewer = at_most_keys (without_key new (with_key new keys)) others apart (among_others new (with_key new keys) others (begins_absent settings.reassembly groups others new carried.offer.time distinct is) among) in
        let one = without_length new (with_key new keys) ours in
        begun_less key others (omega (arith, fewer, one, few))

pub sent_room : (settings : Settings) (carried : List Carried) (key : DatagramKey) (offers earlier : List Offer) → AreInterleaved settings [] carried → AreFewInParts (carried_offers carried) → carried_offers carried ≡ offers ++ earlier
    → LeavesRoom settings.reassembly (groups_after_offers settings.reassembly [] earlier) key offers
sent_room settings carried key [] earlier sends few is = tt
sent_room settings [] key (offer ∷ offers) earlier sends few is = cc
sent_room settings (carried ∷ before) key (offer ∷ offers) earlier sends few is =
    let limit : ℕ = settings.reassembly in
    let one : carried.offer ≡ offer = cc in
    let same : carried_offers before ≡ offers ++ earlier = cc in
    let groups : List Group = groups_after_offers limit [] (carried_offers before) in
    let are : groups ≡ groups_after_offers limit (groups_after_offers limit [] earlier) offers = ap (groups_after_offers limit []) same ∙ offers_join limit [] offers earlier in (
      λ other. subst (λ (groups : List Group). begins_group limit groups offer.packet offer.time ≡ true → begun_meanwhile limit groups key offer.packet offer.time < 3) are
          (subst (λ (o : Offer). begins_group limit groups o.packet o.time ≡ true → begun_meanwhile limit groups key o.packet o.time < 3) one (begins_few settings carried before key sends few.0)),
      sent_room settings before key offers earlier sends.1 few.1 same,
    )
