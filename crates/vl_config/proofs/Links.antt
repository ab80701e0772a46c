-- One more link after the others of the document.
use Rattle.std.proofs.Common.{◌≡◌, ◌∙◌, ap, sym, ◌+◌, Bool, List, [], ◌∷◌, ◌++◌, length, refl, append_assoc, append-nil, arith}
use Rattle.std.specs.List.{IsDistinct}
use Rattle.es_base.specs.Settings.{Settings}
use Rattle.es_base.specs.Config.{same_name, ports_in}

pub none_distinct : {K : Type 0} (same : K → K → Bool) → IsDistinct same []
unfolding IsDistinct
none_distinct same = tt

pub count_push : {X : Type 0} (xs : List X) (x : X) → length (xs ++ x ∷ []) ≡ length xs + 1
count_push [] x = refl
count_push (y ∷ xs) x = omega (arith, count_push xs x)

pub ports_push : (links : List Settings) (link : Settings) → ports_in (links ++ link ∷ []) ≡ ports_in links ++ link.ports
ports_push [] link = append-nil link.ports
ports_push (first ∷ links) link = ap (λ rest. first.ports ++ rest) (ports_push links link) ∙ sym (append_assoc first.ports (ports_in links) link.ports)

-- the names stay distinct
pub names_push : (links : List Settings) (link : Settings) → IsDistinct same_name (ports_in links ++ link.ports) → IsDistinct same_name (ports_in (links ++ link ∷ []))
names_push links link distinct = rw (ports_push links link) distinct
