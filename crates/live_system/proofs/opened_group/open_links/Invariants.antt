use Rattle.std.proofs.Common.{◌≡◌, ◌++◌, List, take}
use Rattle.receiver.specs.declared.ends.LinkEnds.{LinkEnds}
use Rattle.receiver.specs.declared.partition.PartitionEnd.{PartitionEnd}
use Rattle.receiver.specs.Outlet.{reads_by}
use Rattle.receiver.specs.Port.{ReadsPort, ShowsPort}
use Rattle.receiver.specs.Receiver.{AreNewLinks}
use Rattle.live_system.proofs.opened_group.open_links.Given as goal

-- the links so far
abbrev pub invariant-links : goal.invariant-links
invariant-links g l = (more : List (LinkEnds PartitionEnd)) × (l.ends.items ≡ l.fn.ends.items ++ more) × AreNewLinks ShowsPort (reads_by ReadsPort (g.R.Readers.count l.readers)) (take l.settings-index l.links) l.opened.items more
