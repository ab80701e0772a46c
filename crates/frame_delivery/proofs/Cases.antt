-- A list that is one of two, by a test.
use Rattle.std.proofs.Common.{◌≡◌, Bool, true, false, refl}
use Rattle.std.specs.Prelude.{if◌then◌else◌}

pub by_if : {X : Type 0} (Hold : X → Type 0) (test : Bool) (one two : X) → (test ≡ true → Hold one) → (test ≡ false → Hold two) → Hold (if test then one else two)
by_if Hold true one two first second = first refl
by_if Hold false one two first second = second refl
