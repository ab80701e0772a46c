use Rattle.slot_core.proofs.Interleavings.{events_keep, opening_is_lawful, reached_is_lawful}
use Rattle.slot_core.proofs.laws.a_port_stays_lawful.Goals as goal

pub returns-clause-opening : goal.returns-clause-opening
returns-clause-opening c = opening_is_lawful

pub returns-clause-events : goal.returns-clause-events
returns-clause-events c = events_keep

pub returns-clause-reached : goal.returns-clause-reached
returns-clause-reached c = reached_is_lawful
