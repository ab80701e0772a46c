use Rattle.std.proofs.Common.{◌≡◌, ◌∙◌, ◌+◌, ◌++◌, ◌∷◌, [], List, ap, append_assoc, arith, suc, sym}
use Rattle.live_system.specs.declared.cut.LinkPlace.{LinkPlace}
use Rattle.live_system.specs.Groups.{places_of}
use Rattle.live_system.proofs.Openings.{places_from_first}
use Rattle.live_system.proofs.cut.push_places.Goals as goal

pub links-preserved : goal.links-preserved
links-preserved c =
    let at = c.links.index in
    let group = c.args.group in
    let one : LinkPlace = record { group = group; index = at } in
    c.in_ok-push.ensures.items
    ∙ (ap (λ (ps : List LinkPlace). ps ++ one ∷ []) c.links.invariant
    ∙ (append_assoc c.args.places.now.items (places_of group 0 at) (one ∷ []) ∙ ap (λ (ps : List LinkPlace). c.args.places.now.items ++ ps) (sym (places_from_first group at) ∙ ap (places_of group 0) (let z : suc at ≡ at + 1 = omega arith in z))))
