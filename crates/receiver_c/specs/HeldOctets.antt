-- Octets in memory, as C is told their address.
use Rattle.std.specs.Prelude.{◌≡◌, ℕ, List, length, Option, None, Some}
use Rattle.std.specs.Borrow.{Bor}
use Rattle.std.specs.Ptr.{Ptr, block_ptr}
use Rattle.receiver_c.specs.declared.held_octets.HeldOctets.{HeldOctets}

-- address of these octets, which are lent
abbrev pub address : Bor (List ℕ) → Ptr
address octets = block_ptr octets.ref_ptr.0 octets.ref_ptr.1

-- the address and the number of these octets are told
-- rule: EMB-23
abbrev pub TellsOctets : Option (List ℕ) → HeldOctets → Type 0
TellsOctets None told = ⊥
TellsOctets (Some octets) told = (lent : Bor (List ℕ)) × (lent.now ≡ octets) × (told.at ≡ address lent) × (told.len ≡ length octets)
