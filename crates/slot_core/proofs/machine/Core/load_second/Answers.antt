use Rattle.std.proofs.Common.{arith}
use Rattle.slot_core.proofs.Fields.{load_second_is}
use Rattle.slot_core.proofs.machine.Core.load_second.Goals as goal

pub returns : goal.returns
returns c = let f = c.self.inside in
    rw (← c.self.view_is)
    (load_second_is f c.self.invariant c.args.reader c.requires c.looks_again-now.result (c.looks_again-now.ensures.view f.published.items (omega (arith, c.len.ensures, f.published.ok.0))))
