use Rattle.std.proofs.Common.{◌∙◌, sym}
use Rattle.ip_reassembly.proofs.GivenUp.{shows_room_left, shows_room_made}
use Rattle.ip_reassembly.proofs.Stands.{room_left, room_made}
use Rattle.ip_reassembly.proofs.reassembly.Reassembly.make_room.Goals as goal

pub returns-then-is_full-clause-stand : goal.returns-then-is_full-clause-stand
returns-then-is_full-clause-stand c = λ groups stand. room_made _ _ groups stand (sym c.is_full.ensures.value ∙ c.if-is_full.true) (c.give_up.ensures.stand groups stand)

pub returns-else-is_full-clause-stand : goal.returns-else-is_full-clause-stand
returns-else-is_full-clause-stand c = λ groups stand. room_left _ groups stand (sym c.is_full.ensures.value ∙ c.if-is_full.false)

pub returns-then-is_full-clause-given_up : goal.returns-then-is_full-clause-given_up
returns-then-is_full-clause-given_up c = λ groups n stand shows. shows_room_made _ groups _ _ n stand (sym c.is_full.ensures.value ∙ c.if-is_full.true) c.give_up.ensures.given_up shows

pub returns-else-is_full-clause-given_up : goal.returns-else-is_full-clause-given_up
returns-else-is_full-clause-given_up c = λ groups n stand shows. shows_room_left _ groups _ n stand (sym c.is_full.ensures.value ∙ c.if-is_full.false) shows
