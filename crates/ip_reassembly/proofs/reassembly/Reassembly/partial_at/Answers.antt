use Rattle.ip_reassembly.proofs.Lists.{standing_at}
use Rattle.ip_reassembly.proofs.reassembly.Reassembly.partial_at.Goals as goal

pub returns : goal.returns
returns c =
    let less = rw (← c.self.view_is) at c.requires in
    rw (← c.self.view_is) (standing_at c.self.inside.partials.items c.self.inside.standing _ _ less (rw c.deref.ensures.0 at c.index-deref-place.is))
