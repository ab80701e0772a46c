-- What comes of a packet that has no datagram whole.
use Rattle.std.proofs.Common.{◌≡◌, ◌∙◌, ap, ℕ, Bool, true, false, List, None, Some, refl}
use Rattle.std.proofs.lemmas.Option.{same_Some}
use Rattle.es_base.specs.Packet.{PacketParts}
use Rattle.link_rules.specs.Groups.{Group, Fate, whole, fate}
use Rattle.link_receiver.specs.Walk.{IsMessageOf}

pub no_message : (delivers : Bool) (limit : ℕ) (groups : List Group) (packet : PacketParts) (time : ℕ) (becomes : Fate) → becomes ≡ fate limit groups packet time
    → ((octets : List ℕ) (joined : Bool) → becomes ≡ whole octets joined → ⊥) → IsMessageOf delivers limit groups (Some packet) time None
no_message false limit groups packet time becomes is never = refl
no_message true limit groups packet time becomes is never = λ parts octets joined udp same completes read.
    absurd (never octets joined (is ∙ ap (λ p. fate limit groups p time) (same_Some packet parts same) ∙ completes))
