use Rattle.receiver.specs.Outlet.{reads_by}
use Rattle.receiver.proofs.Links.{new_links}
use Rattle.receiver.proofs.receiver.Receiver.open_with.Goals as goal

pub invariant_of-receiver : goal.invariant_of-receiver
invariant_of-receiver g c =
    rw c.in_ok-copy.ensures (new_links g.P.Outlet.shows (reads_by g.P.Outlet.reads (g.R.Readers.count c.args.readers.now)) c.args.config.now.links c.in_ok-links.links.items c.in_ok-links.ends.items (rw c.links.ensures.value at c.in_ok-links.ensures))
