use Rattle.ip_reassembly.proofs.Stands.{stand_place}
use Rattle.ip_reassembly.proofs.reassembly.Reassembly.place_of.Goals as goal

pub returns-clause-group : goal.returns-clause-group
returns-clause-group c = rw (← c.self.view_is, c.place_among.ensures.value, c.deref.ensures.0) (λ groups stand. stand_place c.args.key _ groups stand)
