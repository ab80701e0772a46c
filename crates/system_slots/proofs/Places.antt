-- What was read at a place stands there.
use Rattle.std.proofs.Common.{◌≡◌, ◌<◌, ◌∙◌, ℕ, List, Some, ap, length, refl, sym}
use Rattle.std.specs.List.{slice_get}
use Rattle.std.specs.Prelude.{slice_index_or}
use Rattle.std.proofs.lemmas.Option.{slice_get_read}

pub stands : {X : Type 0} (read own : List X) (place : ℕ) (x : X) → read ≡ own → place < length read → x ≡ slice_index_or read place x → slice_get own place ≡ Some x
stands {X} read own place x same within is = ap (λ (xs : List X). slice_get xs place) (sym same) ∙ slice_get_read read (length read) place x refl within is
