use Rattle.es_base.proofs.Places.{no_places}
use Rattle.es_base.proofs.links.Links.new.Goals as goal

pub invariant_of-result : goal.invariant_of-result
invariant_of-result c = rw (c.new-2.ensures.items, c.new.ensures.items) no_places
