use Rattle.std.proofs.Common.{◌≤◌, ◌+◌, ◌-◌, ◌*◌}
use Rattle.ip_reassembly.specs.Runs.{IsRunOfMarks}
use Rattle.ip_reassembly.proofs.runs.run_end.Given as goal

-- the blocks so far are set
abbrev pub invariant-loop : goal.invariant-loop
invariant-loop l = record {
  run : IsRunOfMarks l.marks l.from l.place;
  order : l.from ≤ l.place;
  blocks : l.place + 64 * (l.end - l.counter) ≤ l.to;
}
