use Rattle.std.proofs.Common.{◌≡◌, ◌∙◌, ◌+◌, ◌++◌, List, ap, arith, length, sym, take, ℕ}
use Rattle.std.specs.Prelude.{slice_index_or}
use Rattle.std.proofs.lemmas.List.{length-take-le, take_more}
use Rattle.live_system.specs.declared.cut.LinkPlace.{LinkPlace}
use Rattle.live_system.specs.Groups.{places_in, places_of}
use Rattle.live_system.proofs.Openings.{places_in_push}
use Rattle.live_system.proofs.cut.places_in.Goals as goal

pub groups-preserved : goal.groups-preserved
groups-preserved c =
    let at = c.groups.group in
    let sizes = c.args.sizes.now in
    let size = slice_index_or sizes at 0 in
    let before : length (take at sizes) ≡ at = length-take-le at sizes (let low = c.groups-test.true in omega (arith, low)) in
    c.in_ok-push_places.ensures
    ∙ (ap (λ (ps : List LinkPlace). ps ++ places_of at 0 size) c.groups.invariant
    ∙ (ap (λ (n : ℕ). places_in 0 (take at sizes) ++ places_of n 0 size) (let z : at ≡ 0 + length (take at sizes) = omega (arith, before) in z)
    ∙ (sym (places_in_push 0 (take at sizes) size) ∙ ap (places_in 0) (sym (take_more sizes at 0 c.groups-test.true)))))
