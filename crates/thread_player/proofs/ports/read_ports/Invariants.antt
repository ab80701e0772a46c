use Rattle.std.proofs.Common.{◌≡◌, ◌++◌, ℕ, drop}
use Rattle.output_lines.specs.Report.{link_lines, ports_lines}
use Rattle.link_receiver.specs.Link.{all_deliveries_of, past_of}
use Rattle.thread_player.specs.Report.{lines_of_ports}
use Rattle.thread_player.proofs.Places.{AreLeft}
use Rattle.thread_player.proofs.ports.read_ports.Given as goal

-- the messages so far, and those of the ports that are left, whose ends are as they were
abbrev pub invariant-places : goal.invariant-places
invariant-places g l = record {
  link : l.link ≡ l.fn.link;
  left : AreLeft l.place l.fn.ends l.ends;
  ports : (at : ℕ) → lines_of_ports at l.ports.items ++ ports_lines at (all_deliveries_of l.fn.link) l.place (drop l.place l.fn.link.settings.ports)
      ≡ lines_of_ports at l.fn.ports.items ++ link_lines at l.fn.link.settings (past_of l.fn.link);
}
