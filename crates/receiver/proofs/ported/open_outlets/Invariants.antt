use Rattle.std.proofs.Common.{take}
use Rattle.receiver.specs.Ends.{ArePortsOpened}
use Rattle.receiver.specs.Outlet.{LoseNothing, reads_by}
use Rattle.receiver.proofs.ported.open_outlets.Given as goal

-- the outlets and ends of the ports so far
abbrev pub invariant-ports : goal.invariant-ports
invariant-ports g l =
    ArePortsOpened g.P.Outlet.shows (reads_by g.P.Outlet.reads (g.R.Readers.count l.fn.readers)) 0 (take l.place l.ports) l.outlets.items l.ends.items
    × LoseNothing g.P.Outlet.loses l.outlets.items
