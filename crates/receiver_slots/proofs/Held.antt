-- The octets of the message that a reader has.
use Rattle.std.proofs.Common.{◌≡◌, ◌∙◌, ap, refl, List, [], ◌∷◌, ◌++◌}
use Rattle.es_base.specs.declared.event.Message.{Message}
use Rattle.triple_buffer.specs.Rule.{HasLast}
use Rattle.receiver_slots.specs.Reading.{last_octets}

at_end : (before : List Message) (message : Message) → last_octets (before ++ message ∷ []) ≡ message.octets
at_end [] message = refl
at_end (first ∷ []) message = refl
at_end (first ∷ second ∷ before) message = at_end (second ∷ before) message

pub last_has : (messages : List Message) (message : Message) → HasLast messages message → last_octets messages ≡ message.octets
last_has messages message ends = ap last_octets ends.1 ∙ at_end ends.0 message
