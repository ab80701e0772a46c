-- Elements of lists by their places.
use Rattle.std.proofs.Common.{◌≡◌, ℕ, zero, suc, ◌<◌, List, [], ◌∷◌, ◌++◌, length, map, reverse, set, Some, refl, sym, ap, ◌∙◌, arith}
use Rattle.std.specs.List.{slice_get}
use Rattle.std.proofs.lemmas.List.{reverse-append}
use Rattle.std.proofs.lemmas.Option.{same_Some}

-- the last of a list with one more at its end
pub slice_get-push : {X : Type 0} (xs : List X) (x : X) → slice_get (xs ++ x ∷ []) (length xs) ≡ Some x
slice_get-push [] x = refl
slice_get-push (y ∷ xs) x = slice_get-push xs x

pub slice_get-set_same : {X : Type 0} (xs : List X) (i : ℕ) (x : X) → i < length xs → slice_get (set xs i x) i ≡ Some x
slice_get-set_same [] i x h = absurd (omega arith)
slice_get-set_same (y ∷ xs) zero x h = refl
slice_get-set_same (y ∷ xs) (suc i) x h = slice_get-set_same xs i x (omega arith)

pub slice_get-set_other : {X : Type 0} (xs : List X) (i j : ℕ) (x : X) → (j ≡ i → ⊥) → slice_get (set xs i x) j ≡ slice_get xs j
slice_get-set_other [] i j x h = refl
slice_get-set_other (y ∷ xs) zero zero x h = absurd (h refl)
slice_get-set_other (y ∷ xs) zero (suc j) x h = refl
slice_get-set_other (y ∷ xs) (suc i) zero x h = refl
slice_get-set_other (y ∷ xs) (suc i) (suc j) x h = slice_get-set_other xs i j x (λ e. h (ap suc e))

-- a list with one more at its end, from its end
pub reverse-push : {X : Type 0} (xs : List X) (x : X) → reverse (xs ++ x ∷ []) ≡ x ∷ reverse xs
reverse-push xs x = reverse-append xs (x ∷ [])

-- the element at a place within
pub there : {X : Type 0} (xs : List X) (i : ℕ) → i < length xs → (x : X) × (slice_get xs i ≡ Some x)
there [] i within = absurd (omega arith)
there (x ∷ xs) zero within = (x, refl)
there (x ∷ xs) (suc i) within = there xs i (omega arith)

-- an element replaced by itself
pub set_same : {X : Type 0} (xs : List X) (i : ℕ) (x y : X) → slice_get xs i ≡ Some x → y ≡ x → set xs i y ≡ xs
set_same [] i x y is same = refl
set_same (z ∷ xs) zero x y is same = ap (λ w. w ∷ xs) (same ∙ sym (same_Some z x is))
set_same (z ∷ xs) (suc i) x y is same = ap (λ ws. z ∷ ws) (set_same xs i x y is same)

-- an element replaced by one that looks the same
pub map-set_same : {X Y : Type 0} (f : X → Y) (xs : List X) (i : ℕ) (x y : X) → slice_get xs i ≡ Some x → f y ≡ f x → map f (set xs i y) ≡ map f xs
map-set_same f [] i x y is same = refl
map-set_same f (z ∷ xs) zero x y is same = ap (λ w. w ∷ map f xs) (same ∙ sym (ap f (same_Some z x is)))
map-set_same f (z ∷ xs) (suc i) x y is same = ap (λ ws. f z ∷ ws) (map-set_same f xs i x y is same)
