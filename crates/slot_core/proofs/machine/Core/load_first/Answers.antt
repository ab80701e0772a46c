use Rattle.std.proofs.Common.{arith}
use Rattle.slot_core.proofs.Fields.{load_first_is}
use Rattle.slot_core.proofs.machine.Core.load_first.Goals as goal

pub returns : goal.returns
returns c = let f = c.self.inside in
    rw (← c.self.view_is)
    (load_first_is f c.self.invariant c.args.reader c.requires c.begins-now.result (c.begins-now.ensures.view f.published.items (omega (arith, c.len.ensures, f.published.ok.0))))
