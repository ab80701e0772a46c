-- An IPv4 address and its text.
use Rattle.std.proofs.Common.{◌≡◌, ◌∙◌, sym, ℕ, List, [], ◌∷◌, Option, Some, None, Ok, Err, append-nil, refl, subst, lit≤}
use Rattle.std.specs.Option.{ok_or, option_and_then}
use Rattle.std.specs.Net.Addr.{ipv4_octets, ipv4_bits}
use Rattle.std.specs.Net.Grammar.{IsDotted, IsIpv4Text}
use Rattle.std.specs.Net.Reader.{read_ipv4}
use Rattle.std.specs.declared.net.ipv4_addr.Ipv4Addr.{Ipv4Addr}
use Rattle.std.proofs.NetLemmas.Ipv4.{read_ipv4_complete, read_ipv4_sound}
use Rattle.vl_config.specs.declared.fault.ConfigFault.TheVariants.{Range}
use Rattle.vl_config.specs.declared.fault.Key.TheVariants.{Address}
use Rattle.vl_config.specs.Port.{address_from, whole_address}

-- a text that spells an address
pub spelled : (text : List ℕ) (address : Ipv4Addr) → IsIpv4Text text address → address_from text ≡ Ok (ipv4_bits address)
unfolding ipv4_bits
spelled text address h =
    let read : read_ipv4 text ≡ Some (ipv4_octets address, []) = subst (λ t. read_ipv4 t ≡ Some (ipv4_octets address, [])) (append-nil text) (read_ipv4_complete text _ [] h (lit≤ tt)) in
    rw read refl

-- a text that spells none
pub unspelled : (text : List ℕ) → ((address : Ipv4Addr) → ¬ (IsIpv4Text text address)) → address_from text ≡ Err (Range Address)
unspelled text none = go (read_ipv4 text) refl
  where
    go : (r : Option (List ℕ × List ℕ)) → read_ipv4 text ≡ r → ok_or (option_and_then whole_address r) (Range Address) ≡ Err (Range Address)
    go None e = refl
    go (Some (octets, _ ∷ _)) e = refl
    go (Some (octets, [])) e =
        let (front, split, dotted) = read_ipv4_sound text octets [] e in
        let same : text ≡ front = split ∙ append-nil front in
        absurd (none (record { octets = octets }) (subst (λ t. IsDotted t octets) (sym same) dotted))
