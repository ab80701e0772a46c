use Rattle.std.proofs.Common.{◌≡◌, ◌++◌, ℕ, drop}
use Rattle.thread_player.specs.Report.{lines_of_ports, ports_of_links}
use Rattle.thread_player.proofs.Places.{AreLeft}
use Rattle.thread_player.proofs.report.read_all_ports.Given as goal

-- the messages so far, and those of the links that are left, whose ends are as they were
abbrev pub invariant-links : goal.invariant-links
invariant-links g l = record {
  links : l.links ≡ l.fn.links;
  left : AreLeft l.place l.fn.ends l.ends;
  ports : (at : ℕ) → lines_of_ports at l.ports.items ++ ports_of_links at (drop l.place l.fn.links) ≡ ports_of_links at l.fn.links;
}
