-- How full the queue of a link's port is while frames come to the link.
use Rattle.std.specs.Prelude.{slice_get, Option}
use Rattle.es_base.specs.declared.place.PortNo.{PortNo}
use Rattle.receiver.specs.declared.queue.Fill.{Fill}
use Rattle.receiver.specs.Fill.{IsFillAt, LooksAt}
use Rattle.receiver.specs.Link.{LinkStays}
use Rattle.receiver.specs.Port.{GivesPort}
use Rattle.live_system.specs.Calls.{LiveLink}

-- The fill level of the queue of this port, as the visit left it, by one look at what was taken; none if there is no such
-- queue. The link's past is as it was, and no outlet was given anything.
-- rule: EMB-43
pub record TellsOfQueue (port : PortNo) (told : Option Fill) (found left : LiveLink) : Type 0 where
  pub stays : LinkStays GivesPort found left
  pub fill : IsFillAt left port told
  pub looked : LooksAt (slice_get found.outlets port.0) (slice_get left.outlets port.0)
