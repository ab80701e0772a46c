use Rattle.receiver.specs.Outlet.{reads_by}
use Rattle.receiver.proofs.Losses.{new_tells}
use Rattle.receiver.proofs.Opens.{new_link}
use Rattle.receiver.proofs.ported.PortedLink.open.Goals as goal

pub invariant_of-result : goal.invariant_of-result
invariant_of-result g c =
    let is = new_link g.P.Outlet.shows (reads_by g.P.Outlet.reads (g.R.Readers.count c.args.readers.now)) c.args.settings.now c.in_ok-core.core c.in_ok-outlets.outlets.items c.in_ok-outlets.ends.items c.in_ok-core.ensures.settings c.in_ok-core.ensures.nothing
    (rw c.ports.ensures.value at c.in_ok-outlets.ensures.ports) in
    (is.ported, new_tells g.P.Outlet.loses c.in_ok-core.core c.in_ok-outlets.outlets.items 0 c.in_ok-core.ensures.nothing c.in_ok-outlets.ensures.none_lost)

pub returns : goal.returns
returns g c =
    new_link g.P.Outlet.shows (reads_by g.P.Outlet.reads (g.R.Readers.count c.args.readers.now)) c.args.settings.now c.in_ok-core.core c.in_ok-outlets.outlets.items c.in_ok-outlets.ends.items c.in_ok-core.ensures.settings c.in_ok-core.ensures.nothing
    (rw c.ports.ensures.value at c.in_ok-outlets.ensures.ports)
