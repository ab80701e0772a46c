use Rattle.std.proofs.Common.{arith}
use Rattle.ip_reassembly.proofs.Came.{came_within_both}
use Rattle.ip_reassembly.proofs.runs.Runs.with.Goals as goal

pub returns : goal.returns
returns c =
    let runs = c.args.self in
    let marks = c.args.marks.now in
    let are = c.requires.runs in
    record {
      within = came_within_both marks c.args.offset c.args.end runs.least runs.reach c.min.result c.max.result
          c.requires.order c.requires.within are.within (omega arith) (omega arith) (omega arith) (omega arith);
      first = c.gap_with.ensures.run;
      gap = c.gap_with.ensures.gap;
      last = rw c.max.ensures (c.last_with.ensures.run marks c.requires.within are);
      order = rw c.max.ensures (c.last_with.ensures.order are.order);
      gap_bound = c.gap_with.ensures.bound;
      reach_bound = omega (arith, are.reach_bound, c.requires.within, c.requires.bound);
    }
