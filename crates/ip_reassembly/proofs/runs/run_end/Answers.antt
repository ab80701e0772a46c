use Rattle.std.proofs.Common.{◌-◌, arith}
use Rattle.std.proofs.lemmas.Grind.{common_steps}
use Rattle.ip_reassembly.proofs.Came.{run_goes_on}
use Rattle.ip_reassembly.proofs.runs.run_end.Goals as goal

pub loop-preserved : goal.loop-preserved
loop-preserved c =
    let l = c.loop.invariant in
    record {
      run = run_goes_on c.args.marks.now c.args.from c.loop.place 64 _ (omega arith) l.run (λ i less. c.if-not-are_set.ensures i (grind (arith, common_steps)));
      order = omega (arith, l.order);
      blocks = omega (arith, l.blocks);
    }

pub returns-clause-run : goal.returns-clause-run
returns-clause-run c =
    let l = c.loop.invariant in
    run_goes_on c.args.marks.now c.args.from c.loop.place c.set_first.result (c.args.to - c.loop.place) (grind (arith, common_steps)) l.run
    (λ i less. c.set_first.ensures.run i (omega arith) less)
