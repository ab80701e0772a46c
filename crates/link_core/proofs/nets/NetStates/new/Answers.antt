use Rattle.link_core.proofs.Times.{no_times}
use Rattle.link_core.proofs.nets.NetStates.new.Goals as goal

pub returns : goal.returns
returns c = λ o window.
    let zero = c.opening.ensures in
    record {
      a = rw window c.new.ensures.sequence;
      b = rw window c.new-2.ensures.sequence;
      times = no_times (record { a = c.new.result; b = c.new-2.result; tally = c.opening.result }) c.new.ensures.latest c.new-2.ensures.latest;
      counted = λ net kind is. zero net kind is;
    }
