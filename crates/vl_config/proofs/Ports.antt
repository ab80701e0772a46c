-- One more port after the others of its link.
use Rattle.std.proofs.Common.{◌≡◌, ◌∙◌, Bool, true, false, ◌&&◌, not, List, [], ◌∷◌, ◌++◌, refl, append_assoc, subst}
use Rattle.std.specs.List.{list_any, IsDistinct}
use Rattle.std.proofs.lemmas.Bool.{and_parts, or_parts, false≢true}
use Rattle.std.proofs.lemmas.Cmp.{nat_eq_equiv}
use Rattle.std.proofs.lemmas.List.Folds.{list_any-append}
use Rattle.std.proofs.lemmas.Map.Keys.{IsDistinct-push}
use Rattle.std.specs.Cmp.Lexicographic.{on_texts_equal}
use Rattle.es_base.specs.Port.{Port, accepts, are_apart}
use Rattle.es_base.specs.Config.{has_name, same_name}

accepts_swap : (a b : Port) → accepts a.address a.udp b ≡ accepts b.address b.udp a
accepts_swap a b = rw (nat_eq_equiv.symm a.address b.address, nat_eq_equiv.symm a.udp b.udp) refl

-- the ports stay apart
pub apart_push : (ports : List Port) (port : Port) → are_apart ports ≡ true → list_any (accepts port.address port.udp) ports ≡ false → are_apart (ports ++ port ∷ []) ≡ true
apart_push [] port apart fresh = refl
apart_push (first ∷ ports) port apart fresh =
    let (here, there) = and_parts (not (list_any (accepts first.address first.udp) ports)) (are_apart ports) apart in
    let (other, others) = or_parts (accepts port.address port.udp first) (list_any (accepts port.address port.udp) ports) fresh in
    let kept = apart_push ports port there others in
    let met : accepts first.address first.udp port ≡ false = accepts_swap first port ∙ other in
    go (list_any (accepts first.address first.udp) ports) refl here met kept
  where
    go : (any : Bool) → list_any (accepts first.address first.udp) ports ≡ any → not any ≡ true → accepts first.address first.udp port ≡ false
        → are_apart (ports ++ port ∷ []) ≡ true → (not (list_any (accepts first.address first.udp) (ports ++ port ∷ [])) && are_apart (ports ++ port ∷ [])) ≡ true
    go true e alone met kept = absurd (false≢true alone)
    go false e alone met kept = rw (list_any-append (accepts first.address first.udp) ports (port ∷ []), e, met, kept) refl

-- and so do the names of the document
pub names_push : (earlier ports : List Port) (port : Port) → IsDistinct same_name (earlier ++ ports) → list_any (has_name port.name) (earlier ++ ports) ≡ false
    → IsDistinct same_name (earlier ++ (ports ++ port ∷ []))
names_push earlier ports port distinct fresh =
    subst (IsDistinct same_name) (append_assoc earlier ports (port ∷ [])) (IsDistinct-push (on_texts_equal (λ p. p.name)) (earlier ++ ports) port distinct fresh)
