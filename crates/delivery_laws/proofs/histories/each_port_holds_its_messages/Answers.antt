use Rattle.end_system.proofs.Running.{ended}
use Rattle.delivery_laws.proofs.Holding.{each_holds}
use Rattle.delivery_laws.proofs.histories.each_port_holds_its_messages.Goals as goal

pub returns : goal.returns
returns g = λ system first last ends steps links a b opened ran has_settled.
    each_holds system steps ends links a b (ended system first last ends steps links a b opened ran has_settled)
