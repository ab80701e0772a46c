use Rattle.receiver.specs.Outlet.{reads_by}
use Rattle.receiver.proofs.Runs.{every_run}
use Rattle.delivery_laws.proofs.TaskGiven.{delivers_each}
use Rattle.delivery_laws.proofs.task.each_datagram_is_given_once.Goals as goal

pub returns : goal.returns
returns g c = λ readers config first last ends calls new ran place link there.
    let o = g.P.Outlet in
    let run = every_run o.shows o.gives o.answers o.has_space g.met.P.Outlet.adds (reads_by o.reads readers) config first last ends calls new ran in
    delivers_each o.shows o.answers calls last.links place link run.pasts there
