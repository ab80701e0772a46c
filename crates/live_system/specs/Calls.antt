-- A link under its lock, and the calls of both networks in its past.
use Rattle.std.specs.Prelude.{◌≡◌, List, [], ◌++◌, length, drop, map, reverse}
use Rattle.es_base.specs.declared.event.Event.{Event}
use Rattle.link_lock.specs.declared.user.User.{User}
use Rattle.mailbox_port.specs.Port.{new_port}
use Rattle.receiver.specs.declared.port.PortOutlet.{PortOutlet}
use Rattle.receiver.specs.declared.port.PortOutlet.TheVariants as outlets
use Rattle.receiver.specs.Link.{IsPorted, Ported}
use Rattle.receiver.specs.Port.{ShowsPort}
use Rattle.receiver.specs.Queue.{new_queue}
use Rattle.network_calls.specs.declared.call.Call.{Call}
use Rattle.network_calls.specs.Calls.{calls_from, net_of}

-- a link with the ports that partitions read
abbrev pub LiveLink : Type 0
LiveLink = Ported PortOutlet

-- all events of a link, in the order in which their frames came
abbrev pub events_of : LiveLink → List Event
events_of link = reverse link.core.past

-- ---- under the lock

-- an outlet before any message
abbrev pub new_outlet : PortOutlet → PortOutlet
new_outlet (outlets.Sampling port) = outlets.Sampling (new_port port.buffers port.longest)
new_outlet (outlets.Queuing queue) = outlets.Queuing (new_queue queue.known.queue queue.known.depth)

-- what no visit changes: the link before any frame
abbrev pub as_opened : LiveLink → LiveLink
as_opened link = record { core = record { settings = link.core.settings; past = [] }; outlets = map new_outlet link.outlets; received = 0 }

-- a network whose pass did nothing
abbrev pub no_calls : List Call
no_calls = []

-- The past of the link is a run, its ports were given what that delivers, and the calls of the two networks are those
-- of its events.
-- rule: CONC-9
pub record Agrees (lists : User → List Call) (link : LiveLink) : Type 0 where
  pub ported : IsPorted ShowsPort link
  pub calls : (user : User) → lists user ≡ calls_from 0 (net_of user) (events_of link)

-- what a network did, after more came
abbrev pub goes_on : User → LiveLink → LiveLink → List Call → List Call
goes_on user old new list = list ++ calls_from (length old.core.past) (net_of user) (drop (length old.core.past) (events_of new))
