use Rattle.slot_core.proofs.Fields.{announce_is}
use Rattle.slot_core.proofs.machine.Core.announce.Goals as goal

pub returns : goal.returns
returns c = let f = c.self.inside in
    rw (← c.self.view_is) (announce_is f c.self.invariant c.args.reader c.requires c.announces-now.result (c.announces-now.ensures.view f.published.items))
