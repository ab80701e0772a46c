use Rattle.slot_core.proofs.Fields.{clear_is}
use Rattle.slot_core.proofs.machine.Core.clear.Goals as goal

pub returns : goal.returns
returns c = let f = c.self.inside in
    rw (← c.self.view_is) (clear_is f c.self.invariant c.args.reader c.requires c.clears-now.result (c.clears-now.ensures.view f.published.items))
