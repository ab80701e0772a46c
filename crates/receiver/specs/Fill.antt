-- How full the queue of a link's port is.
use Rattle.std.specs.Prelude.{◌≡◌, ◌≤◌, ◌+◌, List, ◌++◌, length, slice_get, Option, None, Some}
use Rattle.es_base.specs.declared.event.Message.{Message}
use Rattle.es_base.specs.declared.place.PortNo.{PortNo}
use Rattle.es_base.specs.declared.port.PortKind.{PortKind}
use Rattle.es_base.specs.declared.port.PortKind.TheVariants.{Sampling, Queuing}
use Rattle.es_base.specs.Port.{Port}
use Rattle.message_ring.specs.Queue.{messages_in}
use Rattle.message_ring.specs.declared.rule.QueuedMessage.{QueuedMessage}
use Rattle.receiver.specs.declared.port.PortOutlet.{PortOutlet}
use Rattle.receiver.specs.declared.port.PortOutlet.TheVariants as outlets
use Rattle.receiver.specs.declared.queue.Fill.{Fill}
use Rattle.receiver.specs.Link.{Ported, deliveries_of}
use Rattle.receiver.specs.Port.{LooksOnce}
use Rattle.receiver.specs.Queue.{CountedQueue, IsGreatest}

-- of these messages so many wait in the queue, all but those that its putter knows to be taken, and no more than the
-- greatest number that waited
abbrev pub IsFillOf : PortOutlet → List Message → Fill → Type 0
IsFillOf (outlets.Queuing queue) messages fill =
    (messages_in queue.known.put ≡ messages) × (fill.waiting + length queue.known.taken ≡ length messages)
    × (fill.greatest ≡ queue.greatest) × IsGreatest queue.known fill.greatest
IsFillOf (outlets.Sampling writer) messages fill = ⊥

-- a port of this kind, to which these were delivered: nothing is said of one that samples
abbrev pub IsFillAs : PortKind → PortOutlet → List Message → Option Fill → Type 0
IsFillAs (Sampling refresh) outlet messages fill = fill ≡ None
IsFillAs (Queuing depth) outlet messages None = ⊥
IsFillAs (Queuing depth) outlet messages (Some fill) = IsFillOf outlet messages fill × (fill.waiting ≤ depth)

-- a port and its outlet, where both are there; nothing is said of one that isn't
abbrev pub IsFillOfPort : Option Port → Option PortOutlet → List Message → Option Fill → Type 0
IsFillOfPort None None messages fill = fill ≡ None
IsFillOfPort (Some port) (Some outlet) messages fill = IsFillAs port.kind outlet messages fill
IsFillOfPort (Some port) None messages fill = ⊥
IsFillOfPort None (Some outlet) messages fill = ⊥

-- at the port with this number of a link
abbrev pub IsFillAt : Ported PortOutlet → PortNo → Option Fill → Type 0
IsFillAt link port fill = IsFillOfPort (slice_get link.core.settings.ports port.0) (slice_get link.outlets port.0) (deliveries_of link port) fill

-- the queue of a port was looked at once, where there is one
abbrev pub LooksAt : Option PortOutlet → Option PortOutlet → Type 0
LooksAt None None = Unit {0}
LooksAt (Some old) (Some new) = LooksOnce old new
LooksAt (Some old) None = ⊥
LooksAt None (Some new) = ⊥

-- so it was at the port with this number of the link that there may be
-- rule: EMB-7
abbrev pub LooksIn : Option (Ported PortOutlet) → Option (Ported PortOutlet) → PortNo → Type 0
LooksIn None None port = Unit {0}
LooksIn (Some old) (Some new) port = LooksAt (slice_get old.outlets port.0) (slice_get new.outlets port.0)
LooksIn (Some old) None port = ⊥
LooksIn None (Some new) port = ⊥

-- The queue of a port was found full by one look: of the messages that the link's past delivered to the port, the last
-- ones, as many as the queue holds, weren't known to be taken then.
-- rule: PORT-10, PORT-17
abbrev pub IsFoundFull : Ported PortOutlet → Ported PortOutlet → PortNo → Type 0
IsFoundFull old new port =
    (before : CountedQueue) × (after : CountedQueue) × (slice_get old.outlets port.0 ≡ Some (outlets.Queuing before))
    × (slice_get new.outlets port.0 ≡ Some (outlets.Queuing after)) × (after.known.looks ≡ before.known.looks + 1)
    × ((held : List QueuedMessage) × (length held ≡ after.known.depth) × (deliveries_of new port ≡ messages_in (after.known.taken ++ held)))

-- of the link that there may be
-- rule: EMB-7
abbrev pub IsFillIn : Option (Ported PortOutlet) → PortNo → Option Fill → Type 0
IsFillIn None port fill = fill ≡ None
IsFillIn (Some link) port fill = IsFillAt link port fill
