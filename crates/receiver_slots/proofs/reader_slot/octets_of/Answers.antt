use Rattle.std.proofs.Common.{◌∙◌, sym}
use Rattle.receiver_slots.proofs.Held.{last_has}
use Rattle.receiver_slots.proofs.reader_slot.octets_of.Goals as goal

pub returns-in-Some : goal.returns-in-Some
returns-in-Some c = c.octets.ensures ∙ sym (last_has _ _ c.in-Some.ensures.some.1)
