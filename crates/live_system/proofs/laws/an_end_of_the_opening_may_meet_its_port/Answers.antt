use Rattle.receiver.specs.declared.port.PortOutlet.{PortOutlet}
use Rattle.receiver.specs.Port.{IsPortOf, IsQueueOf}
use Rattle.live_system.proofs.Knowing.{knows_outlet}
use Rattle.live_system.proofs.laws.an_end_of_the_opening_may_meet_its_port.Goals as goal

pub returns-clause-readers : goal.returns-clause-readers
returns-clause-readers g = λ passes opened place port reader know has. knows_outlet (λ (outlet : PortOutlet). IsPortOf outlet reader) passes opened place port know has

pub returns-clause-takers : goal.returns-clause-takers
returns-clause-takers g = λ passes opened place port taker know has. knows_outlet (λ (outlet : PortOutlet). IsQueueOf outlet taker) passes opened place port know has
