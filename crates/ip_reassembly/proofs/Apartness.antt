-- No two groups have one key, and at most four stand, after each packet.
use Rattle.std.proofs.Common.{◌≡◌, ◌∙◌, sym, ℕ, zero, suc, ◌-◌, ◌<◌, ◌≤◌, ◌==◌, ⊎_elim, Bool, true, false, List, [], ◌∷◌, ◌++◌, length, drop, remove, slice_get, slice_set, Option, Some, None, is_some, refl, arith}
use Rattle.std.specs.List.{find, list_any}
use Rattle.std.proofs.lemmas.List.{length-append, length-drop, length-set}
use Rattle.std.proofs.lemmas.Bool.{cases_Bool, cases_lt, or_parts, eqb-true, eq-eqb, false≢true}
use Rattle.std.proofs.lemmas.Option.{same_Some}
use Rattle.es_base.specs.declared.fragment.DatagramKey.{DatagramKey}
use Rattle.es_base.specs.Limits.{most_partials}
use Rattle.es_base.specs.Packet.{PacketParts}
use Rattle.link_rules.specs.Fragments.{Piece, is_whole, is_bad, key_of, piece_of}
use Rattle.link_rules.proofs.Keys.{other_way, same_key}
use Rattle.es_base.proofs.Firsts.{found_nowhere, passes_found, found_at as found_at_place}
use Rattle.link_rules.specs.Groups.{Group, is_same_key, has_key, place_of, is_over, Found, begins, joins, found_if, found_at, found_for, with_room, without_group, groups_with, group_with, groups_after, datagram_with}
use Rattle.ip_reassembly.specs.Apart.{HaveDistinctKeys, AreApart}

-- ---- groups without one of them

absent_rest : (p : Group → Bool) (gs : List Group) (i : ℕ) → list_any p gs ≡ false → list_any p (remove gs i) ≡ false
absent_rest p [] zero none = refl
absent_rest p [] (suc i) none = refl
absent_rest p (g ∷ gs) zero none = (or_parts (p g) (list_any p gs) none).1
absent_rest p (g ∷ gs) (suc i) none =
    let (other, others) = or_parts (p g) (list_any p gs) none in
    rw other (absent_rest p gs i others)

distinct_rest : (gs : List Group) (i : ℕ) → HaveDistinctKeys gs → HaveDistinctKeys (remove gs i)
distinct_rest [] zero distinct = tt
distinct_rest [] (suc i) distinct = tt
distinct_rest (g ∷ gs) zero distinct = distinct.1
distinct_rest (g ∷ gs) (suc i) distinct = (absent_rest (has_key g.key) gs i distinct.0, distinct_rest gs i distinct.1)

fewer : (gs : List Group) (i : ℕ) → length (remove gs i) ≤ length gs
fewer [] zero = omega arith
fewer [] (suc i) = omega arith
fewer (g ∷ gs) zero = omega arith
fewer (g ∷ gs) (suc i) = let less = fewer gs i in omega arith

apart_rest : (gs : List Group) (i : ℕ) → AreApart gs → AreApart (remove gs i)
apart_rest gs i apart = let less = fewer gs i in record { few = omega (arith, apart.few); distinct = distinct_rest gs i apart.distinct }

apart_without : (gs : List Group) (place : Option ℕ) → AreApart gs → AreApart (without_group gs place)
apart_without gs None apart = apart
apart_without gs (Some i) apart = apart_rest gs i apart

-- ---- one group more

absent_last : (p : Group → Bool) (gs : List Group) (g : Group) → list_any p gs ≡ false → p g ≡ false → list_any p (gs ++ g ∷ []) ≡ false
absent_last p [] g none other = rw other refl
absent_last p (h ∷ gs) g none other =
    let (first, others) = or_parts (p h) (list_any p gs) none in
    rw first (absent_last p gs g others other)

distinct_last : (gs : List Group) (g : Group) → HaveDistinctKeys gs → list_any (has_key g.key) gs ≡ false → HaveDistinctKeys (gs ++ g ∷ [])
distinct_last [] g distinct none = (refl, tt)
distinct_last (h ∷ gs) g distinct none =
    let (first, others) = or_parts (has_key g.key h) (list_any (has_key g.key) gs) none in
    (absent_last (has_key h.key) gs g distinct.0 (other_way h.key g.key first), distinct_last gs g distinct.1 others)

-- ---- a group with one piece more

absent_set : (k : DatagramKey) (gs : List Group) (i : ℕ) (g h : Group) → slice_get gs i ≡ Some g → h.key ≡ g.key → list_any (has_key k) gs ≡ false → list_any (has_key k) (slice_set gs i h) ≡ false
absent_set k [] i g h there same none = cc
absent_set k (f ∷ gs) zero g h there same none =
    let (first, others) = or_parts (has_key k f) (list_any (has_key k) gs) none in
    let is : f ≡ g = same_Some f g there in
    rw (same, ← is, first) others
absent_set k (f ∷ gs) (suc i) g h there same none =
    let (first, others) = or_parts (has_key k f) (list_any (has_key k) gs) none in
    rw first (absent_set k gs i g h there same others)

distinct_set : (gs : List Group) (i : ℕ) (g h : Group) → slice_get gs i ≡ Some g → h.key ≡ g.key → HaveDistinctKeys gs → HaveDistinctKeys (slice_set gs i h)
distinct_set [] i g h there same distinct = cc
distinct_set (f ∷ gs) zero g h there same distinct =
    let is : f ≡ g = same_Some f g there in
    (rw (same, ← is) distinct.0, distinct.1)
distinct_set (f ∷ gs) (suc i) g h there same distinct = (absent_set f.key gs i g h there same distinct.0, distinct_set gs i g h there same distinct.1)

-- ---- what a piece finds

none_found : (p : Group → Bool) (gs : List Group) → find p gs ≡ None → list_any p gs ≡ false
none_found p [] none = refl
none_found p (g ∷ gs) none =
    ⊎_elim
    (λ (is : p g ≡ true). let e = rw is at none in cc)
    (λ (is : p g ≡ false). rw is (none_found p gs (rw is at none)))
    (cases_Bool (p g))

absent_at : (p : Group → Bool) (gs : List Group) (i : ℕ) (g : Group) → list_any p gs ≡ false → slice_get gs i ≡ Some g → p g ≡ false
absent_at p [] i g none there = cc
absent_at p (f ∷ gs) zero g none there =
    let is : f ≡ g = same_Some f g there in
    rw (← is) ((or_parts (p f) (list_any p gs) none).0)
absent_at p (f ∷ gs) (suc i) g none there = absent_at p gs i g ((or_parts (p f) (list_any p gs) none).1) there

-- no other group has the key of one
others_differ : (gs : List Group) (i : ℕ) (g : Group) → HaveDistinctKeys gs → slice_get gs i ≡ Some g → list_any (has_key g.key) (remove gs i) ≡ false
others_differ [] i g distinct there = cc
others_differ (f ∷ gs) zero g distinct there =
    let is : f ≡ g = same_Some f g there in
    rw (← is) distinct.0
others_differ (f ∷ gs) (suc i) g distinct there =
    let other = other_way g.key f.key (absent_at (has_key f.key) gs i g distinct.0 there) in
    rw other (others_differ gs i g distinct.1 there)

-- a piece joins a group that stands, or begins one whose key no other has
abbrev IsFound : List Group → DatagramKey → Found → Type 0
IsFound gs key (joins i g) = slice_get gs i ≡ Some g
IsFound gs key (begins others) = AreApart others × (list_any (has_key key) others ≡ false)

found_over : (limit : ℕ) (gs : List Group) (key : DatagramKey) (now i : ℕ) (g : Group) → AreApart gs → slice_get gs i ≡ Some g → is_same_key g.key key ≡ true
    → IsFound gs key (found_if limit gs now i (Some g))
found_over limit gs key now i g apart there same =
    ⊎_elim
    (λ (over : is_over limit now g ≡ true).
    let is : g.key ≡ key = same_key g.key key same in
    rw over (apart_rest gs i apart, rw is at (others_differ gs i g apart.distinct there)))
    (λ (over : is_over limit now g ≡ false). rw over there)
    (cases_Bool (is_over limit now g))

found_is : (limit : ℕ) (gs : List Group) (key : DatagramKey) (now : ℕ) → AreApart gs → IsFound gs key (found_for limit gs key now)
found_is limit gs key now apart = go (place_of key gs) refl
  where
    there : (i : ℕ) (o : Option Group) → place_of key gs ≡ Some i → slice_get gs i ≡ o → IsFound gs key (found_if limit gs now i o)
    there i None at is = (apart, none_found (has_key key) gs (found_at_place (has_key key) gs i at ∙ is))
    there i (Some g) at is = found_over limit gs key now i g apart is (passes_found (has_key key) gs g (found_at_place (has_key key) gs i at ∙ is))

    go : (place : Option ℕ) → place_of key gs ≡ place → IsFound gs key (found_at limit gs now place)
    go None at = (apart, none_found (has_key key) gs (found_nowhere (has_key key) gs at))
    go (Some i) at = there i (slice_get gs i) at refl

-- ---- the groups after it

roomy : (gs : List Group) (key : DatagramKey) → AreApart gs → list_any (has_key key) gs ≡ false
    → (length (with_room gs) < most_partials) × HaveDistinctKeys (with_room gs) × (list_any (has_key key) (with_room gs) ≡ false)
roomy gs key apart none =
    ⊎_elim
    (λ (full : (length gs == most_partials) ≡ true).
    let full_up : length gs ≡ most_partials = eqb-true _ _ full in
    let less : length (drop 1 gs) ≡ length gs - 1 = length-drop 1 gs in
    rw full (omega arith, distinct_rest gs 0 apart.distinct, absent_rest (has_key key) gs 0 none))
    (λ (room : (length gs == most_partials) ≡ false).
    let few = apart.few in
    let less : length gs < most_partials =
    ⊎_elim
    (λ (below : length gs < most_partials). below)
    (λ (above : most_partials ≤ length gs). absurd (false≢true (sym room ∙ eq-eqb (length gs) most_partials (omega arith))))
    (cases_lt (length gs) most_partials)
    in
    rw room (less, apart.distinct, none))
    (cases_Bool (length gs == most_partials))

apart_after : (gs : List Group) (key : DatagramKey) (p : Piece) (found : Found) (complete : Bool) → AreApart gs → IsFound gs key found → AreApart (groups_with gs key p found complete)
apart_after gs key p (joins i g) false apart there = record {
  few = rw (length-set gs i (group_with g p)) apart.few;
  distinct = distinct_set gs i g (group_with g p) there refl apart.distinct;
}
apart_after gs key p (joins i g) true apart there = apart_rest gs i apart
apart_after gs key p (begins others) false apart (still, none) =
    let (less, distinct, absent) = roomy others key still none in
    let new : Group = record { key = key; pieces = p ∷ [] } in
    record {
      few = omega (arith, length-append (with_room others) (new ∷ []));
      distinct = distinct_last (with_room others) new distinct absent;
    }
apart_after gs key p (begins others) true apart (still, none) =
    let (less, distinct, absent) = roomy others key still none in
    record { few = omega arith; distinct = distinct }

pub keeps_apart : (limit : ℕ) (gs : List Group) (packet : PacketParts) (now : ℕ) → AreApart gs → AreApart (groups_after limit gs packet now)
unfolding groups_after
keeps_apart limit gs packet now apart =
    ⊎_elim
    (λ (is : is_whole packet ≡ true). rw is (apart_without gs (place_of (key_of packet) gs) apart))
    (λ (part : is_whole packet ≡ false).
    ⊎_elim
    (λ (wrong : is_bad packet ≡ true). rw (part, wrong) apart)
    (λ (good : is_bad packet ≡ false).
    let found = found_is limit gs (key_of packet) now apart in
    rw (part, good) (apart_after gs (key_of packet) (piece_of packet now) (found_for limit gs (key_of packet) now) (is_some (datagram_with limit gs packet now)) apart found))
    (cases_Bool (is_bad packet)))
    (cases_Bool (is_whole packet))
