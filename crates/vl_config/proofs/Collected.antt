-- One more of the items that are read one after another, or the first in which there is a fault.
use Rattle.std.proofs.Common.{◌≡◌, ℕ, ◌+◌, ◌<◌, List, [], ◌∷◌, ◌++◌, length, get_or, drop, map, Result, Ok, Err, refl}
use Rattle.std.proofs.lemmas.List.{drop_more}
use Rattle.vl_config.specs.Collected.{collected}

-- the item at place i
pub one_more : {X Y E T : Type 0} (read : List Y → X → Result Y E) (seen : T → X) (done : List Y) (items : List T) (i : ℕ) (item : T) (one : Y) → i < length items → item ≡ get_or items i item
    → read done (seen item) ≡ Ok one → collected read done (map seen (drop i items)) ≡ collected read (done ++ one ∷ []) (map seen (drop (i + 1) items))
one_more read seen done items i item one within same gives = rw (drop_more items i item within, ← same, gives) refl

-- what is read of the rest, if the item at place i has a fault
pub first_fault : {X Y E T : Type 0} (read : List Y → X → Result Y E) (seen : T → X) (done : List Y) (items : List T) (i : ℕ) (item : T) (fault : E) → i < length items → item ≡ get_or items i item
    → read done (seen item) ≡ Err fault → collected read done (map seen (drop i items)) ≡ Err fault
first_fault read seen done items i item fault within same fails = rw (drop_more items i item within, ← same, fails) refl
