-- A datagram that is split, among other packets: each piece but the last is held, and the last completes it.
use Rattle.std.proofs.Common.{◌≡◌, ◌∙◌, ap, sym, subst, ℕ, suc, ◌+◌, ◌<◌, ◌≤◌, inl, inr, ⊎_elim, Bool, true, false, not, List, [], ◌∷◌, ◌++◌, None, Some, is_some, refl, arith, option_map, append_assoc}
use Rattle.std.specs.Prelude.{◌==◌, ◌&&◌, slice_get, slice_set}
use Rattle.std.proofs.lemmas.Bool.{cases_Bool, le-ltb, ne_eqb}
use Rattle.es_base.specs.declared.fragment.DatagramKey.{DatagramKey}
use Rattle.es_base.specs.Packet.{PacketParts}
use Rattle.es_base.specs.Age.{elapsed}
use Rattle.link_rules.specs.Fragments.{Piece, datagram_from, is_whole, key_of, piece_of}
use Rattle.link_rules.specs.Groups.{Found, Group, begin_or, begins, datagram_with, fate, fate_if, found_at, found_for, found_if, groups_after, groups_with, has_key, held, is_over, is_same_key, joins, pieces_with, place_of, whole, with_room}
use Rattle.link_rules.proofs.Keys.{key_itself, same_key}
use Rattle.datagram_delivery.specs.Splitting.{AreFronts, IsFront, IsLastFragment, Offer, LeavesRoom, begins_group, begun_meanwhile, begun_since, groups_after_offers, is_beginning, is_of, joined, pieces_of}
use Rattle.datagram_delivery.proofs.Standing.{place_here, place_later, HasOther, IsAbsent, each_room, Stands, stands_after, stands_exactly, offers_join}
use Rattle.datagram_delivery.proofs.Rows.{AreFollowed, AreInRow, row_is_held, row_is_joined}
use Rattle.datagram_delivery.specs.Datagrams.{KeepsPlace, IsInParts, IsNextFront}
use Rattle.datagram_delivery.proofs.Unused.{free_begins}

-- ---- the group of the key, where it stands

record OurPlace (key : DatagramKey) (pieces : List Piece) (n : ℕ) (groups : List Group) : Type 0 where
  place : ℕ
  there : place_of key groups ≡ Some place
  got : slice_get groups place ≡ Some (record { key = key; pieces = pieces })
  put : (new : List Piece) → Stands key new n (slice_set groups place (record { key = key; pieces = new }))

our_place : (key : DatagramKey) (pieces : List Piece) (n : ℕ) (groups : List Group) → Stands key pieces n groups → OurPlace key pieces n groups
our_place key pieces n [] stands = absurd stands
our_place key pieces n (group ∷ groups) (inl here) = record {
  place = 0;
  there = place_here (has_key key) group groups (ap (λ (g : Group). is_same_key g.key key) here.0 ∙ key_itself key);
  got = ap Some here.0;
  put = λ new. inl (refl, here.1);
}
our_place key pieces n (group ∷ groups) (inr later) =
    let found = our_place key pieces n groups later.1 in
    record {
      place = suc found.place;
      there = place_later (has_key key) group groups later.0 ∙ ap (option_map suc) found.there;
      got = found.got;
      put = λ new. inr (later.0, found.put new);
    }

-- ---- a piece of the datagram

-- what holds of the groups, when these pieces have come
abbrev pub IsState : DatagramKey → List Piece → ℕ → List Group → Type 0
IsState key [] n groups = ⊥
IsState key (piece ∷ earlier) n groups = Stands key (piece ∷ earlier) n groups

joins_ours : (limit : ℕ) (key : DatagramKey) (first : Piece) (earlier : List Piece) (n : ℕ) (groups : List Group) (now : ℕ) → (stands : Stands key (first ∷ earlier) n groups) → now ≤ begin_or first.time earlier + limit
    → found_for limit groups key now ≡ joins (our_place key (first ∷ earlier) n groups stands).place (record { key = key; pieces = first ∷ earlier })
joins_ours limit key first earlier n groups now stands soon =
    let found = our_place key (first ∷ earlier) n groups stands in
    let not_over : is_over limit now (record { key = key; pieces = first ∷ earlier }) ≡ false = le-ltb limit (elapsed now (begin_or first.time earlier)) (omega arith) in
    ap (found_at limit groups now) found.there ∙ ap (found_if limit groups now found.place) found.got ∙ rw not_over refl

pub state_joins : (limit : ℕ) (key : DatagramKey) (pieces : List Piece) (n : ℕ) (groups : List Group) (now : ℕ) → IsState key pieces n groups → now ≤ begin_or now pieces + limit
    → is_beginning (found_for limit groups key now) ≡ false
state_joins limit key [] n groups now state soon = absurd state
state_joins limit key (first ∷ earlier) n groups now state soon = ap is_beginning (joins_ours limit key first earlier n groups now state soon)

-- the pieces with the next one
found_pieces : (limit : ℕ) (key : DatagramKey) (earlier : List Piece) (n : ℕ) (groups : List Group) (offer : Offer) → IsState key earlier n groups → offer.time ≤ begin_or offer.time earlier + limit
    → pieces_with (piece_of offer.packet offer.time) (found_for limit groups key offer.time) ≡ piece_of offer.packet offer.time ∷ earlier
found_pieces limit key [] n groups offer state soon = absurd state
found_pieces limit key (first ∷ earlier) n groups offer state soon = ap (pieces_with (piece_of offer.packet offer.time)) (joins_ours limit key first earlier n groups offer.time state soon)

-- the groups with a piece that completes nothing
next_state : (limit : ℕ) (key : DatagramKey) (earlier : List Piece) (n : ℕ) (groups : List Group) (offer : Offer) → IsState key earlier n groups → offer.time ≤ begin_or offer.time earlier + limit
    → IsState key (piece_of offer.packet offer.time ∷ earlier) n (groups_with groups key (piece_of offer.packet offer.time) (found_for limit groups key offer.time) false)
next_state limit key [] n groups offer state soon = absurd state
next_state limit key (first ∷ earlier) n groups offer state soon =
    let pieces : List Piece = piece_of offer.packet offer.time ∷ first ∷ earlier in
    subst (λ (f : Found). IsState key pieces n (groups_with groups key (piece_of offer.packet offer.time) f false)) (sym (joins_ours limit key first earlier n groups offer.time state soon))
    ((our_place key (first ∷ earlier) n groups state).put pieces)

-- ---- a piece that more follow

pub more_not_whole : (packet : PacketParts) → packet.more ≡ true → is_whole packet ≡ false
more_not_whole packet more = go (packet.offset == 0)
  where
    go : (b : Bool) → (b && not packet.more) ≡ false
    go true = rw more refl
    go false = refl

pub held_datagram : (limit : ℕ) (key : DatagramKey) (earlier : List Piece) (n : ℕ) (groups : List Group) (offer : Offer) → key_of offer.packet ≡ key → IsState key earlier n groups → IsFront limit earlier offer → AreFollowed earlier
    → datagram_with limit groups offer.packet offer.time ≡ None
held_datagram limit key earlier n groups offer same state front followed =
    ap (λ (k : DatagramKey). datagram_from (pieces_with (piece_of offer.packet offer.time) (found_for limit groups k offer.time))) same
    ∙ ap datagram_from (found_pieces limit key earlier n groups offer state front.next.soon)
    ∙ row_is_held (piece_of offer.packet offer.time ∷ earlier) (front.more, followed)

pub front_is_held : (limit : ℕ) (key : DatagramKey) (earlier : List Piece) (n : ℕ) (groups : List Group) (offer : Offer) → key_of offer.packet ≡ key → IsState key earlier n groups → IsFront limit earlier offer → AreFollowed earlier
    → fate limit groups offer.packet offer.time ≡ held
unfolding fate
front_is_held limit key earlier n groups offer same state front followed =
    rw (more_not_whole offer.packet front.more, front.next.good) (ap fate_if (held_datagram limit key earlier n groups offer same state front followed))

front_state : (limit : ℕ) (key : DatagramKey) (earlier : List Piece) (n : ℕ) (groups : List Group) (offer : Offer) → key_of offer.packet ≡ key → IsState key earlier n groups → IsFront limit earlier offer → AreFollowed earlier
    → IsState key (piece_of offer.packet offer.time ∷ earlier) n (groups_after limit groups offer.packet offer.time)
unfolding groups_after
front_state limit key earlier n groups offer same state front followed =
    let none : is_some (datagram_with limit groups offer.packet offer.time) ≡ false = ap is_some (held_datagram limit key earlier n groups offer same state front followed) in
    let next = next_state limit key earlier n groups offer state front.next.soon in
    let piece : Piece = piece_of offer.packet offer.time in
    rw (more_not_whole offer.packet front.more, front.next.good)
    (subst (λ (complete : Bool). IsState key (piece ∷ earlier) n (groups_with groups (key_of offer.packet) piece (found_for limit groups (key_of offer.packet) offer.time) complete)) (sym none)
    (subst (λ (k : DatagramKey). IsState key (piece ∷ earlier) n (groups_with groups k piece (found_for limit groups k offer.time) false)) (sym same) next))

-- ---- the first fragment

pub first_groups : (limit : ℕ) (key : DatagramKey) (groups others : List Group) (first : Offer) → key_of first.packet ≡ key → found_for limit groups key first.time ≡ begins others → IsFront limit [] first
    → groups_after limit groups first.packet first.time ≡ with_room others ++ record { key = key; pieces = piece_of first.packet first.time ∷ [] } ∷ []
unfolding groups_after
first_groups limit key groups others first same found front =
    let piece : Piece = piece_of first.packet first.time in
    let none : is_some (datagram_from (piece ∷ [])) ≡ false = ap is_some (row_is_held (piece ∷ []) (front.more, tt)) in
    rw (more_not_whole first.packet front.more, front.next.good)
    (ap (λ (k : DatagramKey). groups_with groups k piece (found_for limit groups k first.time) (is_some (datagram_from (pieces_with piece (found_for limit groups k first.time))))) same
    ∙ ap (λ (f : Found). groups_with groups key piece f (is_some (datagram_from (pieces_with piece f)))) found ∙ ap (groups_with groups key piece (begins others)) none)

pub first_is_held : (limit : ℕ) (key : DatagramKey) (groups others : List Group) (first : Offer) → key_of first.packet ≡ key → found_for limit groups key first.time ≡ begins others → IsFront limit [] first
    → fate limit groups first.packet first.time ≡ held
unfolding fate
first_is_held limit key groups others first same found front =
    let piece : Piece = piece_of first.packet first.time in
    rw (more_not_whole first.packet front.more, front.next.good)
    (ap (λ (k : DatagramKey). fate_if (datagram_from (pieces_with piece (found_for limit groups k first.time)))) same
    ∙ ap (λ (f : Found). fate_if (datagram_from (pieces_with piece f))) found ∙ ap fate_if (row_is_held (piece ∷ []) (front.more, tt)))

pub first_front : (limit : ℕ) (key : DatagramKey) (first : Offer) (during : List Offer) → AreFronts limit key (during ++ first ∷ []) → is_of key first ≡ true → IsFront limit [] first
first_front limit key first [] fronts ours = fronts.0 ours
first_front limit key first (offer ∷ during) fronts ours = first_front limit key first during fronts.1 ours

stands_last : (key : DatagramKey) (pieces : List Piece) (n : ℕ) (others : List Group) → IsAbsent key others → Stands key pieces n (others ++ record { key = key; pieces = pieces } ∷ [])
stands_last key pieces n [] absent = inl (refl, omega arith)
stands_last key pieces n (group ∷ others) absent = inr (absent.0, stands_last key pieces n others absent.1)

-- ---- all offers

pub fronts_row : (limit : ℕ) (key : DatagramKey) (before : List Offer) → AreFronts limit key before → AreInRow (pieces_of key before) × AreFollowed (pieces_of key before)
fronts_row limit key [] fronts = (tt, tt)
fronts_row limit key (offer ∷ before) fronts =
    let rest = fronts_row limit key before fronts.1 in
    ⊎_elim
    (λ (ours : is_of key offer ≡ true).
    let front = fronts.0 ours in
    rw ours ((front.next.begins, rest.0), (front.more, rest.1)))
    (λ (other : is_of key offer ≡ false). rw other rest)
    (cases_Bool (is_of key offer))

other_state : (limit : ℕ) (key : DatagramKey) (earlier : List Piece) (n : ℕ) (groups : List Group) (offer : Offer) → is_of key offer ≡ false → IsState key earlier n groups
    → begins_group limit groups offer.packet offer.time ≡ true → begun_meanwhile limit groups key offer.packet offer.time < 3
    → IsState key earlier (suc (begun_meanwhile limit groups key offer.packet offer.time)) (groups_after limit groups offer.packet offer.time)
other_state limit key [] n groups offer other state begun few = absurd state
other_state limit key (first ∷ earlier) n groups offer other state begun few =
    (stands_after limit key (first ∷ earlier) n groups offer.packet offer.time other state).0 begun few

same_state : (limit : ℕ) (key : DatagramKey) (earlier : List Piece) (n : ℕ) (groups : List Group) (offer : Offer) → is_of key offer ≡ false → IsState key earlier n groups
    → begins_group limit groups offer.packet offer.time ≡ false → IsState key earlier n (groups_after limit groups offer.packet offer.time)
same_state limit key [] n groups offer other state begun = absurd state
same_state limit key (first ∷ earlier) n groups offer other state begun =
    (stands_after limit key (first ∷ earlier) n groups offer.packet offer.time other state).1 begun

-- the number of groups that began later, as it is
exactly : (key : DatagramKey) (pieces : List Piece) (n : ℕ) (groups : List Group) → IsState key pieces n groups → IsState key pieces (begun_since key groups) groups
exactly key [] n groups state = absurd state
exactly key (piece ∷ earlier) n groups state = stands_exactly key (piece ∷ earlier) n groups state

-- after the first fragment and what came after it
pub state_after : (limit : ℕ) (groups others : List Group) (key : DatagramKey) (first : Offer) (during : List Offer) → is_of key first ≡ true → found_for limit groups key first.time ≡ begins others → IsAbsent key others
    → AreFronts limit key (during ++ first ∷ []) → LeavesRoom limit groups key (during ++ first ∷ [])
    → IsState key (pieces_of key (during ++ first ∷ [])) (begun_since key (groups_after_offers limit groups (during ++ first ∷ []))) (groups_after_offers limit groups (during ++ first ∷ []))
state_after limit groups others key first [] ours found absent fronts room =
    let piece : Piece = piece_of first.packet first.time in
    let standing : List Group = groups_after limit groups first.packet first.time in
    let is = first_groups limit key groups others first (same_key (key_of first.packet) key ours) found (fronts.0 ours) in
    rw ours (exactly key (piece ∷ []) 0 standing (subst (λ (after : List Group). Stands key (piece ∷ []) 0 after) (sym is) (stands_last key (piece ∷ []) 0 (with_room others) (each_room (HasOther key) others absent))))
state_after limit groups others key first (offer ∷ during) begun_by found absent fronts room =
    let standing : List Group = groups_after_offers limit groups (during ++ first ∷ []) in
    let n : ℕ = begun_since key standing in
    let state : IsState key (pieces_of key (during ++ first ∷ [])) n standing = state_after limit groups others key first during begun_by found absent fronts.1 room.1 in
    ⊎_elim
    (λ (ours : is_of key offer ≡ true).
    let same : key_of offer.packet ≡ key = same_key (key_of offer.packet) key ours in
    let new = front_state limit key (pieces_of key (during ++ first ∷ [])) n standing offer same state (fronts.0 ours) (fronts_row limit key (during ++ first ∷ []) fronts.1).1 in
    rw ours (exactly key (piece_of offer.packet offer.time ∷ pieces_of key (during ++ first ∷ [])) n (groups_after limit standing offer.packet offer.time) new))
    (λ (other : is_of key offer ≡ false).
    ⊎_elim
    (λ (begun : begins_group limit standing offer.packet offer.time ≡ true).
    let new = other_state limit key (pieces_of key (during ++ first ∷ [])) n standing offer other state begun (room.0 other begun) in
    rw other (exactly key (pieces_of key (during ++ first ∷ [])) (suc (begun_meanwhile limit standing key offer.packet offer.time)) (groups_after limit standing offer.packet offer.time) new))
    (λ (not_begun : begins_group limit standing offer.packet offer.time ≡ false).
    let new = same_state limit key (pieces_of key (during ++ first ∷ [])) n standing offer other state not_begun in
    rw other (exactly key (pieces_of key (during ++ first ∷ [])) n (groups_after limit standing offer.packet offer.time) new))
    (cases_Bool (begins_group limit standing offer.packet offer.time)))
    (cases_Bool (is_of key offer))

-- ---- the last piece

pub last_not_whole : (packet : PacketParts) → 0 < packet.offset → is_whole packet ≡ false
last_not_whole packet after = rw (ne_eqb packet.offset 0 (λ e. omega arith)) refl

pub last_is_whole : (limit : ℕ) (key : DatagramKey) (earlier : List Piece) (n : ℕ) (groups : List Group) (offer : Offer) → key_of offer.packet ≡ key → IsState key earlier n groups → AreInRow earlier
    → IsLastFragment limit earlier offer → fate limit groups offer.packet offer.time ≡ whole (joined earlier ++ offer.packet.octets) true
unfolding fate
last_is_whole limit key earlier n groups offer same state row is_last =
    let piece : Piece = piece_of offer.packet offer.time in
    let datagram : datagram_with limit groups offer.packet offer.time ≡ Some (joined earlier ++ offer.packet.octets) =
    ap (λ (k : DatagramKey). datagram_from (pieces_with piece (found_for limit groups k offer.time))) same
    ∙ ap datagram_from (found_pieces limit key earlier n groups offer state is_last.next.soon)
    ∙ row_is_joined piece earlier (is_last.next.begins, row) is_last.more in
    rw (last_not_whole offer.packet is_last.after, is_last.next.good) (ap fate_if datagram)

-- ---- a datagram in parts, among other packets: each fragment but the last is held, and the last completes it

-- the groups that stand
groups_join : (limit : ℕ) (first : Offer) (during earlier : List Offer)
    → groups_after_offers limit [] (during ++ first ∷ earlier) ≡ groups_after_offers limit (groups_after_offers limit [] earlier) (during ++ first ∷ [])
groups_join limit first during earlier = ap (groups_after_offers limit []) (sym (append_assoc during (first ∷ []) earlier)) ∙ offers_join limit [] (during ++ first ∷ []) earlier

pub in_parts : (limit : ℕ) (key : DatagramKey) (earlier : List Offer) (first : Offer) (during : List Offer) → IsInParts limit key earlier first during → KeepsPlace limit key earlier first during
    → IsState key (pieces_of key (during ++ first ∷ [])) (begun_since key (groups_after_offers limit [] (during ++ first ∷ earlier))) (groups_after_offers limit [] (during ++ first ∷ earlier))
in_parts limit key earlier first during parts room =
    let begun = free_begins limit key first.time earlier parts.free in
    subst (λ (groups : List Group). IsState key (pieces_of key (during ++ first ∷ [])) (begun_since key groups) groups) (sym (groups_join limit first during earlier))
    (state_after limit (groups_after_offers limit [] earlier) begun.others key first during parts.begins begun.found begun.absent parts.fronts room)

pub front_held : (limit : ℕ) (offers : List Offer) (front : Offer) → IsNextFront limit offers front → fate limit (groups_after_offers limit [] offers) front.packet front.time ≡ held
front_held limit offers front next = go next.during next.is next.parts next.room
  where
    key : DatagramKey
    key = key_of front.packet

    go : (during : List Offer) → front ∷ offers ≡ during ++ next.first ∷ next.earlier → IsInParts limit key next.earlier next.first during → KeepsPlace limit key next.earlier next.first during
        → fate limit (groups_after_offers limit [] offers) front.packet front.time ≡ held
    go [] is parts room =
        let begun = free_begins limit key next.first.time next.earlier parts.free in
        let one : front ≡ next.first = cc in
        let same : offers ≡ next.earlier = cc in
        ap (λ (offers : List Offer). fate limit (groups_after_offers limit [] offers) front.packet front.time) same
        ∙ ap (λ (o : Offer). fate limit (groups_after_offers limit [] next.earlier) o.packet o.time) one
        ∙ first_is_held limit key (groups_after_offers limit [] next.earlier) begun.others next.first (same_key (key_of next.first.packet) key parts.begins) begun.found (parts.fronts.0 parts.begins)
    go (offer ∷ during) is parts room =
        let one : offer ≡ front = cc in
        let same : offers ≡ during ++ next.first ∷ next.earlier = cc in
        let ours : List Offer = during ++ next.first ∷ [] in
        let groups : List Group = groups_after_offers limit [] (during ++ next.first ∷ next.earlier) in
        let before : IsInParts limit key next.earlier next.first during = record { begins = parts.begins; free = parts.free; fronts = parts.fronts.1 } in
        let front_is = parts.fronts.0 (ap (λ (o : Offer). is_of key o) one ∙ key_itself key) in
        ap (λ (offers : List Offer). fate limit (groups_after_offers limit [] offers) front.packet front.time) same
        ∙ front_is_held limit key (pieces_of key ours) (begun_since key groups) groups front refl (in_parts limit key next.earlier next.first during before room.1)
        (subst (λ (o : Offer). IsFront limit (pieces_of key ours) o) one front_is) (fronts_row limit key ours parts.fronts.1).1

pub last_completes : (limit : ℕ) (earlier : List Offer) (first : Offer) (during : List Offer) (last : Offer) → IsInParts limit (key_of last.packet) earlier first during → KeepsPlace limit (key_of last.packet) earlier first during
    → IsLastFragment limit (pieces_of (key_of last.packet) (during ++ first ∷ [])) last
    → fate limit (groups_after_offers limit [] (during ++ first ∷ earlier)) last.packet last.time ≡ whole (joined (pieces_of (key_of last.packet) (during ++ first ∷ [])) ++ last.packet.octets) true
last_completes limit earlier first during last parts room is_last =
    let key : DatagramKey = key_of last.packet in
    let groups : List Group = groups_after_offers limit [] (during ++ first ∷ earlier) in
    last_is_whole limit key (pieces_of key (during ++ first ∷ [])) (begun_since key groups) groups last refl (in_parts limit key earlier first during parts room) (fronts_row limit key (during ++ first ∷ []) parts.fronts).0 is_last
