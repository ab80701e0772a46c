use Rattle.std.proofs.Common.{◌≡◌, ◌++◌, drop}
use Rattle.thread_player.specs.Report.{lines_of_ports}
use Rattle.thread_player.proofs.report.write_ports.Given as goal

-- the text so far, and the lines of the ports that are left
abbrev pub invariant-ports : goal.invariant-ports
invariant-ports l = l.text ++ lines_of_ports l.at (drop l.port-index l.ports) ≡ l.fn.text ++ lines_of_ports l.at l.ports
