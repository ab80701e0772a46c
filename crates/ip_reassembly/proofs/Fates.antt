-- What becomes of a packet, by what it finds.
use Rattle.std.proofs.Common.{◌≡◌, ◌∙◌, ap, sym, ℕ, ◌+◌, ◌<◌, ◌≤◌, Bool, true, false, List, [], ◌∷◌, ◌++◌, length, Option, Some, None, refl, arith, ⊎_elim}
use Rattle.std.specs.Option.{option_map}
use Rattle.std.proofs.lemmas.Bool.{eq-eqb, false≢true, cases_lt}
use Rattle.std.proofs.lemmas.Option.{same_Some}
use Rattle.es_base.specs.Packet.{PacketParts}
use Rattle.link_rules.specs.Fragments.{is_whole, is_bad, key_of, piece_of, octet_at, octets_if, total_of, datagram_from}
use Rattle.link_rules.specs.Groups.{Group, whole, bad, held, begins, joins, found_for, place_of, with_room, without_group, fate, fate_if, groups_after}
use Rattle.ip_reassembly.specs.declared.answer.Preview.TheVariants as previews
use Rattle.es_base.specs.Udp.{head_of}
use Rattle.ip_reassembly.specs.Answers.{preview_of}
use Rattle.ip_reassembly.specs.Kept.{joined_group}
use Rattle.ip_reassembly.specs.GivenUp.{given_up, one_at, one_for_room}
use Rattle.ip_reassembly.proofs.Datagrams.{one_missing}
use Rattle.ip_reassembly.proofs.Datagrams.{octet_before}

-- a piece that begins a group doesn't complete its datagram: another follows, or it leaves out the first octet
lone_piece : (packet : PacketParts) (time : ℕ) → is_whole packet ≡ false → datagram_from (piece_of packet time ∷ []) ≡ None
lone_piece packet time part = go packet.more refl
  where
    go : (more : Bool) → packet.more ≡ more → datagram_from (piece_of packet time ∷ []) ≡ None
    go true is = rw is refl
    go false is =
        let later : 0 < packet.offset =
        ⊎_elim
        (λ (above : 0 < packet.offset). above)
        (λ (none : packet.offset ≤ 0).
        let first : packet.offset ≡ 0 = omega arith in
        absurd (false≢true (sym (rw (is, eq-eqb packet.offset 0 first) at part))))
        (cases_lt 0 packet.offset)
        in
        let lacks : octet_at (piece_of packet time ∷ []) 0 ≡ None = rw (octet_before (piece_of packet time) 0 later) refl in
        let end : total_of (piece_of packet time ∷ []) ≡ Some (packet.offset + length packet.octets) = rw is refl in
        ap (λ (total : Option ℕ). octets_if total (piece_of packet time ∷ [])) end
        ∙ one_missing (packet.offset + length packet.octets) (piece_of packet time ∷ []) 0 (omega arith) lacks

-- ---- a piece that joins a group

pub none_of : (joined : Option (List ℕ)) → None ≡ option_map length joined → joined ≡ None
none_of None is = refl
none_of (Some d) is = cc

pub some_of : (joined : Option (List ℕ)) (len : ℕ) → Some len ≡ option_map length joined → (d : List ℕ) × (joined ≡ Some d) × (length d ≡ len)
some_of None len is = cc
some_of (Some d) len is = (d, refl, sym (same_Some _ _ is))

pub previewed : (joined : Option (List ℕ)) (len : ℕ) (head : List ℕ) → Some len ≡ option_map length joined → ((d : List ℕ) → joined ≡ Some d → length d ≡ len → head ≡ head_of d)
    → previews.Whole len head true ≡ preview_of (fate_if joined)
previewed None len head is heads = cc
previewed (Some d) len head is heads =
    let long : len ≡ length d = same_Some _ _ is in
    let same : head ≡ head_of d = heads d refl (sym long) in
    rw (long, same) refl

module _ (limit : ℕ) (groups : List Group) (packet : PacketParts) (now : ℕ) where
  pub whole_fate : is_whole packet ≡ true → fate limit groups packet now ≡ whole packet.octets false
  unfolding fate
  whole_fate is = rw is refl

  pub bad_fate : is_whole packet ≡ false → is_bad packet ≡ true → fate limit groups packet now ≡ bad
  unfolding fate
  bad_fate part is = rw (part, is) refl

  pub begins_fate : (others : List Group) → is_whole packet ≡ false → is_bad packet ≡ false → found_for limit groups (key_of packet) now ≡ begins others → fate limit groups packet now ≡ held
  unfolding fate
  begins_fate others part good found = rw (part, good, found, lone_piece packet now part) refl

  pub joins_fate : (place : ℕ) (group : Group) → is_whole packet ≡ false → is_bad packet ≡ false → found_for limit groups (key_of packet) now ≡ joins place group
      → fate limit groups packet now ≡ fate_if (datagram_from (piece_of packet now ∷ group.pieces))
  unfolding fate
  joins_fate place group part good found = rw (part, good, found) refl

  pub whole_groups : is_whole packet ≡ true → groups_after limit groups packet now ≡ without_group groups (place_of (key_of packet) groups)
  unfolding groups_after
  whole_groups is = rw is refl

  pub bad_groups : is_whole packet ≡ false → is_bad packet ≡ true → groups_after limit groups packet now ≡ groups
  unfolding groups_after
  bad_groups part is = rw (part, is) refl

  pub begins_groups : (others : List Group) → is_whole packet ≡ false → is_bad packet ≡ false → found_for limit groups (key_of packet) now ≡ begins others
      → groups_after limit groups packet now ≡ with_room others ++ record { key = key_of packet; pieces = piece_of packet now ∷ [] } ∷ []
  unfolding groups_after
  begins_groups others part good found = rw (part, good, found, lone_piece packet now part) refl

  pub joins_groups : (place : ℕ) (group : Group) → is_whole packet ≡ false → is_bad packet ≡ false → found_for limit groups (key_of packet) now ≡ joins place group
      → groups_after limit groups packet now ≡ joined_group groups place group packet now
  unfolding groups_after
  joins_groups place group part good found = rw (part, good, found) refl

  pub whole_given_up : is_whole packet ≡ true → given_up limit groups packet now ≡ one_at (place_of (key_of packet) groups)
  unfolding given_up
  whole_given_up is = rw is refl

  pub bad_given_up : is_whole packet ≡ false → is_bad packet ≡ true → given_up limit groups packet now ≡ 0
  unfolding given_up
  bad_given_up part is = rw (part, is) refl

  pub begins_given_up : (others : List Group) → is_whole packet ≡ false → is_bad packet ≡ false → found_for limit groups (key_of packet) now ≡ begins others
      → given_up limit groups packet now ≡ one_at (place_of (key_of packet) groups) + one_for_room others
  unfolding given_up
  begins_given_up others part good found = rw (part, good, found) refl

  pub joins_given_up : (place : ℕ) (group : Group) → is_whole packet ≡ false → is_bad packet ≡ false → found_for limit groups (key_of packet) now ≡ joins place group
      → given_up limit groups packet now ≡ 0
  unfolding given_up
  joins_given_up place group part good found = rw (part, good, found) refl
