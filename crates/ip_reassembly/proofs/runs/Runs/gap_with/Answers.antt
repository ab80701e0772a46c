use Rattle.std.proofs.Common.{arith}
use Rattle.ip_reassembly.proofs.Came.{first_that_goes_on}
use Rattle.ip_reassembly.proofs.runs.Runs.gap_with.Goals as goal

pub run_end-requires-clause-order : goal.run_end-requires-clause-order
run_end-requires-clause-order c = omega (arith, c.requires.runs.order)

pub run_end-requires-clause-within : goal.run_end-requires-clause-within
run_end-requires-clause-within c = omega (arith, c.requires.runs.reach_bound, c.requires.bound)

pub returns-clause-run : goal.returns-clause-run
returns-clause-run c =
    first_that_goes_on c.args.marks.now c.args.offset c.args.end c.args.self.gap _ (omega arith) c.requires.within c.requires.runs.first (omega arith) c.run_end.ensures.run
