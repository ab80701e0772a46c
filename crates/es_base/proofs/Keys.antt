-- A port is found by its key.
use Rattle.std.proofs.Common.{◌≡◌, ◌∙◌, ◌<◌, ◌≤◌, ◌==◌, ◌&&◌, ◌+◌, ◌*◌, ap, sym, subst, ⊎_elim, ℕ, suc, Bool, true, false, List, [], ◌∷◌, length, take, set, get_or, Option, Some, arith, position, cond, option_map, refl}
use Rattle.std.specs.List.{slice_get}
use Rattle.std.proofs.lemmas.Bool.{and_parts, cases_Bool, cases_lt, eqb-true, eq-eqb}
use Rattle.std.proofs.lemmas.List.{length-set}
use Rattle.std.proofs.lemmas.Option.{get_or_from_slice_get, same_Some}
use Rattle.es_base.specs.Port.{Port, accepts}
use Rattle.es_base.specs.Settings.{AreKeysOf, port_key}
use Rattle.es_base.proofs.Elements.{slice_get-set_other, slice_get-set_same}
use Rattle.es_base.proofs.Places.{position_cons}

-- two keys are one if both of their parts are
one_key : (a u b v : ℕ) → u < 65536 → v < 65536 → (port_key a u == port_key b v) ≡ (a == b && u == v)
one_key a u b v small small' =
    ⊎_elim
    (λ (same : (port_key a u == port_key b v) ≡ true).
    let keys : a * 65536 + u ≡ b * 65536 + v = eqb-true _ _ same in
    same ∙ sym (rw (eq-eqb a b (omega (arith, keys, small, small')), eq-eqb u v (omega (arith, keys, small, small'))) refl))
    (λ (other : (port_key a u == port_key b v) ≡ false).
    ⊎_elim
    (λ (both : (a == b && u == v) ≡ true).
    let parts = and_parts (a == b) (u == v) both in
    let of_a = eqb-true a b parts.0 in
    let of_u = eqb-true u v parts.1 in
    eq-eqb (port_key a u) (port_key b v) (λ i. port_key (of_a i) (of_u i)) ∙ sym both)
    (λ (not_both : (a == b && u == v) ≡ false). other ∙ sym not_both)
    (cases_Bool (a == b && u == v)))
    (cases_Bool (port_key a u == port_key b v))

-- so many keys are those of the first ports
abbrev pub AreKeysUpTo : ℕ → List Port → List ℕ → Type 0
AreKeysUpTo many ports keys = (place : ℕ) (port : Port) → place < many → slice_get ports place ≡ Some port → (slice_get keys place ≡ Some (port_key port.address port.udp)) × (port.udp < 65536)

pub key_place : (ports : List Port) (keys : List ℕ) (address udp : ℕ) → udp < 65536 → AreKeysOf ports keys
    → position (λ key. key == port_key address udp) (take (length ports) keys) ≡ position (accepts address udp) ports
key_place [] keys address udp small are = refl
key_place (port ∷ ports) [] address udp small are = absurd (let first = (are 0 port refl).0 in cc)
key_place (port ∷ ports) (key ∷ keys) address udp small are =
    let first = are 0 port refl in
    let is : key ≡ port_key port.address port.udp = same_Some _ _ first.0 in
    let later = key_place ports keys address udp small (λ place other at. are (suc place) other at) in
    let passes : (key == port_key address udp) ≡ accepts address udp port = ap (λ (k : ℕ). k == port_key address udp) is ∙ one_key port.address port.udp address udp first.1 small in
    position_cons (λ (k : ℕ). k == port_key address udp) key (take (length ports) keys)
    ∙ (λ i. cond (passes i) (Some 0) (option_map suc (later i)))
    ∙ sym (position_cons (accepts address udp) port ports)

pub key_found : (ports : List Port) (keys : List ℕ) (address udp wanted : ℕ) (found : Option ℕ) → found ≡ position (λ key. key == wanted) (take (length ports) keys) → wanted ≡ port_key address udp
    → udp < 65536 → AreKeysOf ports keys → found ≡ position (accepts address udp) ports
key_found ports keys address udp wanted found is same small are =
    is ∙ ap (λ (k : ℕ). position (λ key. key == k) (take (length ports) keys)) same ∙ key_place ports keys address udp small are

-- one key more
pub keys_pushed : (ports : List Port) (keys : List ℕ) (many key : ℕ) (next : Port) → length keys ≡ 32 → many < length ports → length ports ≤ 32 → AreKeysUpTo many ports keys → next ≡ get_or ports many next
    → key ≡ port_key next.address next.udp → next.udp < 65536 → (length (set keys many key) ≡ 32) × AreKeysUpTo (many + 1) ports (set keys many key)
keys_pushed ports keys many key next long within few are is key_is small = (
  length-set keys many key ∙ long,
  λ place port below at. ⊎_elim
      (λ (less : place < many). let was = are place port less at in (slice_get-set_other keys many place key (λ e. absurd (omega (arith, e, less))) ∙ was.0, was.1))
      (λ (past : many ≤ place).
      let same : place ≡ many = omega (arith, past, below) in
      let it : next ≡ port = is ∙ sym (ap (λ (n : ℕ). get_or ports n next) same) ∙ get_or_from_slice_get ports place port next at in (
        ap (slice_get (set keys many key)) same ∙ slice_get-set_same keys many key (omega (arith, within, few, long)) ∙ ap Some (key_is ∙ ap (λ (p : Port). port_key p.address p.udp) it),
        subst (λ (p : Port). p.udp < 65536) it small,
      ))
      (cases_lt place many),
)
