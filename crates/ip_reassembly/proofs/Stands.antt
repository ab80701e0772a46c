-- What is kept of some groups, after one of them changes.
use Rattle.std.proofs.Common.{◌≡◌, ◌∙◌, sym, ℕ, zero, suc, true, false, List, [], ◌∷◌, length, remove, slice_get, slice_set, Some, refl, ◌==◌}
use Rattle.std.specs.Prelude.{position}
use Rattle.std.specs.List.{position_or_len}
use Rattle.std.proofs.lemmas.Option.{same_Some}
use Rattle.es_base.specs.declared.fragment.DatagramKey.{DatagramKey}
use Rattle.link_rules.specs.Fragments.{Piece}
use Rattle.link_rules.specs.Groups.{Group, has_key, place_of, is_over, found_for, begins, joins, without_group, with_room, group_with}
use Rattle.es_base.specs.Limits.{most_partials}
use Rattle.ip_reassembly.specs.declared.partial.Partial.{Partial}
use Rattle.ip_reassembly.specs.Held.{HoldsPieces}
use Rattle.ip_reassembly.specs.Kept.{IsPartial, StandFor, has_key_of}

pub stand_length : (ss : List Partial) (gs : List Group) → StandFor ss gs → length ss ≡ length gs
stand_length [] [] stand = refl
stand_length [] (g ∷ gs) stand = absurd stand
stand_length (s ∷ ss) [] stand = absurd stand
stand_length (s ∷ ss) (g ∷ gs) stand = rw (stand_length ss gs stand.1) refl

pub stand_at : (ss : List Partial) (gs : List Group) (i : ℕ) (s : Partial) → StandFor ss gs → slice_get ss i ≡ Some s → (g : Group) × (slice_get gs i ≡ Some g) × IsPartial s g
stand_at [] gs i s stand at = cc
stand_at (t ∷ ss) [] i s stand at = absurd stand
stand_at (t ∷ ss) (g ∷ gs) zero s stand at = (g, refl, rw (same_Some t s at) at stand.0)
stand_at (t ∷ ss) (g ∷ gs) (suc i) s stand at = stand_at ss gs i s stand.1 at

pub stand_is : (ss : List Partial) (gs : List Group) (i : ℕ) (s : Partial) (g : Group) → StandFor ss gs → slice_get ss i ≡ Some s → slice_get gs i ≡ Some g → IsPartial s g
stand_is ss gs i s g stand at there =
    let (h, found, is) = stand_at ss gs i s stand at in
    let same : h ≡ g = same_Some h g (sym found ∙ there) in
    rw same at is

pub stand_set : (ss : List Partial) (gs : List Group) (i : ℕ) (s : Partial) (g : Group) → StandFor ss gs → IsPartial s g → StandFor (slice_set ss i s) (slice_set gs i g)
stand_set [] [] i s g stand is = stand
stand_set [] (h ∷ gs) i s g stand is = absurd stand
stand_set (t ∷ ss) [] i s g stand is = absurd stand
stand_set (t ∷ ss) (h ∷ gs) zero s g stand is = (is, stand.1)
stand_set (t ∷ ss) (h ∷ gs) (suc i) s g stand is = (stand.0, stand_set ss gs i s g stand.1 is)

pub stand_remove : (ss : List Partial) (gs : List Group) (i : ℕ) → StandFor ss gs → StandFor (remove ss i) (remove gs i)
stand_remove [] [] zero stand = stand
stand_remove [] [] (suc i) stand = stand
stand_remove [] (g ∷ gs) i stand = absurd stand
stand_remove (s ∷ ss) [] i stand = absurd stand
stand_remove (s ∷ ss) (g ∷ gs) zero stand = stand.1
stand_remove (s ∷ ss) (g ∷ gs) (suc i) stand = (stand.0, stand_remove ss gs i stand.1)

first_at : (key : DatagramKey) (ss : List Partial) (gs : List Group) → StandFor ss gs → position_or_len (has_key_of key) ss ≡ position_or_len (has_key key) gs
first_at key [] [] stand = refl
first_at key [] (g ∷ gs) stand = absurd stand
first_at key (s ∷ ss) [] stand = absurd stand
first_at key (s ∷ ss) (g ∷ gs) stand = rw (stand.0.key_is, first_at key ss gs stand.1) refl

pub stand_place : (key : DatagramKey) (ss : List Partial) (gs : List Group) → StandFor ss gs → position (has_key_of key) ss ≡ place_of key gs
stand_place key ss gs stand = rw (first_at key ss gs stand, stand_length ss gs stand) refl

-- ---- what a piece finds

pub found_over : (limit : ℕ) (gs : List Group) (key : DatagramKey) (now place : ℕ) (g : Group) → place_of key gs ≡ Some place → slice_get gs place ≡ Some g → is_over limit now g ≡ true
    → found_for limit gs key now ≡ begins (without_group gs (place_of key gs))
found_over limit gs key now place g first there over = rw (first, there, over) refl

pub found_joins : (limit : ℕ) (gs : List Group) (key : DatagramKey) (now place : ℕ) (g : Group) → place_of key gs ≡ Some place → slice_get gs place ≡ Some g → is_over limit now g ≡ false
    → found_for limit gs key now ≡ joins place g
found_joins limit gs key now place g first there over = rw (first, there, over) refl

-- ---- room for one more

pub room_left : (ss : List Partial) (gs : List Group) → StandFor ss gs → (length ss == most_partials) ≡ false → StandFor ss (with_room gs)
room_left ss gs stand room =
    let same : (length gs == most_partials) ≡ false = rw (stand_length ss gs stand) at room in
    rw same stand

pub room_made : (ss new : List Partial) (gs : List Group) → StandFor ss gs → (length ss == most_partials) ≡ true → StandFor new (remove gs 0) → StandFor new (with_room gs)
room_made ss new gs stand full made =
    let same : (length gs == most_partials) ≡ true = rw (stand_length ss gs stand) at full in
    rw same made

-- ---- one piece more

pub joined_partial : (old new : Partial) (g : Group) (p : Piece) → IsPartial old g → new.key ≡ old.key → new.begin ≡ old.begin → HoldsPieces new.buffer (p ∷ g.pieces) → IsPartial new (group_with g p)
joined_partial old new g p is key begin holds = record {
  key_is = key ∙ is.key_is;
  begin_is = λ time. is.begin_is p.time ∙ sym begin;
  holds = holds;
}
