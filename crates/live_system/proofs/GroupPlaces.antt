-- The group of a link, by the ids of the locks.
use Rattle.std.proofs.Common.{◌≡◌, ◌⊎◌, ◌+◌, ◌<◌, ℕ, zero, suc, List, [], ◌∷◌, ◌++◌, length, take, Some, refl, sym, ap, ◌∙◌, ⊎_elim, inl, inr, arith}
use Rattle.std.specs.List.{All, slice_get}
use Rattle.std.proofs.lemmas.List.Elements.{All-head, All-tail}
use Rattle.std.proofs.lemmas.Option.{same_Some}
use Rattle.link_lock.specs.Pass.{LockId}
use Rattle.live_system.specs.Chunk.{groups_begun}
use Rattle.live_system.specs.Groups.{ids_in, ids_of, places_in, places_of}
use Rattle.live_system.specs.declared.cut.LinkPlace.{LinkPlace}

-- links that aren't the first of their group begin none
none_begun : (lock : LockId) (place more : ℕ) (rest : List LockId) → groups_begun (ids_of lock (suc place) more ++ rest) ≡ groups_begun rest
none_begun lock place zero rest = refl
none_begun lock place (suc more) rest = none_begun lock (suc place) more rest

-- each group is begun by one link
pub all_begun : (sizes : List ℕ) (locks : List LockId) → All (λ size. 0 < size) sizes → length locks ≡ length sizes → groups_begun (ids_in sizes locks) ≡ length sizes
all_begun [] locks some many = refl
all_begun (size ∷ sizes) [] some many = absurd (omega (arith, many))
all_begun (zero ∷ sizes) (lock ∷ locks) some many = let no = All-head (λ (n : ℕ). 0 < n) zero sizes some in absurd (omega (arith, no))
all_begun (suc more ∷ sizes) (lock ∷ locks) some many =
    ap suc (none_begun lock 0 more (ids_in sizes locks) ∙ all_begun sizes locks (All-tail (λ (n : ℕ). 0 < n) (suc more) sizes some) (omega (arith, many)))

-- A place after the first link of a group: it is of the group, which is the only one begun up to it, or it is of a later
-- one.
among : (group : ℕ) (lock : LockId) (p more : ℕ) (rest : List LockId) (later : List LinkPlace) (at : ℕ) (place : LinkPlace)
    → slice_get (places_of group (suc p) more ++ later) at ≡ Some place
    → ((place.group ≡ group) × (groups_begun (take (suc at) (ids_of lock (suc p) more ++ rest)) ≡ 0))
    ⊎ ((k : ℕ) × (slice_get later k ≡ Some place) × (groups_begun (take (suc at) (ids_of lock (suc p) more ++ rest)) ≡ groups_begun (take (suc k) rest)))
among group lock p zero rest later at place there = inr (at, there, refl)
among group lock p (suc more) rest later zero place there =
    inl (ap (λ (l : LinkPlace). l.group) (sym (same_Some (record { group = group; index = suc p }) place there)), refl)
among group lock p (suc more) rest later (suc at) place there = among group lock (suc p) more rest later at place there

-- as many groups were begun up to a link as come before its own, and its own
pub group_is : (first : ℕ) (sizes : List ℕ) (locks : List LockId) (at : ℕ) (place : LinkPlace) → All (λ size. 0 < size) sizes → length locks ≡ length sizes
    → slice_get (places_in first sizes) at ≡ Some place → place.group + 1 ≡ first + groups_begun (take (suc at) (ids_in sizes locks))
group_is first [] locks at place some many there = cc
group_is first (size ∷ sizes) [] at place some many there = absurd (omega (arith, many))
group_is first (zero ∷ sizes) (lock ∷ locks) at place some many there = let no = All-head (λ (n : ℕ). 0 < n) zero sizes some in absurd (omega (arith, no))
group_is first (suc more ∷ sizes) (lock ∷ locks) zero place some many there =
    let own : first ≡ place.group = ap (λ (l : LinkPlace). l.group) (same_Some (record { group = first; index = 0 }) place there) in
    omega (arith, own)
group_is first (suc more ∷ sizes) (lock ∷ locks) (suc at) place some many there =
    ⊎_elim
    (λ (here : (place.group ≡ first) × (groups_begun (take (suc at) (ids_of lock 1 more ++ ids_in sizes locks)) ≡ 0)).
    omega (arith, here.0, here.1))
    (λ (after : (k : ℕ) × (slice_get (places_in (suc first) sizes) k ≡ Some place)
    × (groups_begun (take (suc at) (ids_of lock 1 more ++ ids_in sizes locks)) ≡ groups_begun (take (suc k) (ids_in sizes locks)))).
    let rest = group_is (suc first) sizes locks after.0 place (All-tail (λ (n : ℕ). 0 < n) (suc more) sizes some) (omega (arith, many)) after.1 in
    omega (arith, rest, after.2))
    (among first lock 0 more (ids_in sizes locks) (places_in (suc first) sizes) at place there)
