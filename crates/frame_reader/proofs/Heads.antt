-- A UDP header in the first octets of a datagram.
use Rattle.std.proofs.Common.{◌≡◌, ℕ, ◌+◌, ◌<◌, ◌≤◌, ⊎_elim, List, length, take, replicate, slice_index, refl, arith}
use Rattle.std.proofs.lemmas.Bool.{cases_lt, lt-ltb}
use Rattle.std.proofs.lemmas.List.{take-append-le, get_or-take, get_or-drop}
use Rattle.es_base.specs.Octets.{u16_at}
use Rattle.es_base.specs.Udp.{udp_head_of, head_of}

same_number : (a b : List ℕ) (offset : ℕ) → slice_index a offset ≡ slice_index b offset → slice_index a (offset + 1) ≡ slice_index b (offset + 1) → u16_at offset a ≡ u16_at offset b
unfolding u16_at
same_number a b offset high low =
    let here : offset + 0 ≡ offset = omega arith in
    rw (get_or-drop offset a 0 0, get_or-drop offset b 0 0, get_or-drop offset a 1 0, get_or-drop offset b 1 0, here, high, low) refl

-- the number of two octets is read in a datagram as in its first octets
same_u16 : (octets : List ℕ) (offset : ℕ) → 8 ≤ length octets → offset + 2 ≤ 8 → u16_at offset (head_of octets) ≡ u16_at offset octets
same_u16 octets offset long within =
    let first : head_of octets ≡ take 8 octets = take-append-le 8 octets (replicate 8 0) long in
    same_number (head_of octets) octets offset
    (rw first (get_or-take 8 octets offset 0 (omega arith)))
    (rw first (get_or-take 8 octets (offset + 1) 0 (omega arith)))

pub same_head : (octets : List ℕ) → udp_head_of (length octets) (head_of octets) ≡ udp_head_of (length octets) octets
same_head octets =
    ⊎_elim
    (λ (short : length octets < 8). rw (lt-ltb (length octets) 8 short) refl)
    (λ (long : 8 ≤ length octets). rw (same_u16 octets 0 long (omega arith), same_u16 octets 2 long (omega arith), same_u16 octets 4 long (omega arith)) refl)
    (cases_lt (length octets) 8)
