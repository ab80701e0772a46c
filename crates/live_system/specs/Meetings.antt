-- Ends of ports meet them, under the lock of their link.
use Rattle.std.specs.Prelude.{◌≡◌, ◌≢◌, ◌≤◌, ◌+◌, ℕ, List, [], length, map, slice_get, Some}
use Rattle.es_base.specs.declared.place.PortNo.{PortNo}
use Rattle.mailbox_port.specs.Reads.{PortReader, told}
use Rattle.link_core.specs.Counted.{shown}
use Rattle.message_ring.specs.Queue.{BeginsWith, Known, losses_in, messages_in}
use Rattle.receiver.specs.declared.port.PortOutlet.{PortOutlet}
use Rattle.receiver.specs.Link.{deliveries_of, losses_of}
use Rattle.receiver.specs.Meetings.{HasOutletAt}
use Rattle.receiver.specs.Outlet.{GivesAt}
use Rattle.receiver.specs.Port.{GivesPort, HasMetPort, HasMetQueue}
use Rattle.triple_buffer.specs.Rule.{StartsWith}
use Rattle.live_system.specs.Calls.{LiveLink}
use Rattle.live_system.specs.Pass.{KnownLink, Visits}

-- the outlet of this port of the link at this place is such a one, as the link was opened
abbrev pub KnowsOutlet : List KnownLink → ℕ → PortNo → (PortOutlet → Type 0) → Type 0
KnowsOutlet passes place port IsSuch = (pass : KnownLink) × (slice_get passes place ≡ Some pass) × (link : LiveLink) × (pass.link ≡ Some link) × HasOutletAt link port IsSuch

-- a visit of the link at this place did this
abbrev pub VisitsAt : List KnownLink → ℕ → (LiveLink → LiveLink → Type 0) → Type 0
VisitsAt passes place did = (pass : KnownLink) × (slice_get passes place ≡ Some pass) × Visits pass did

-- a reader of this port met it: it knows all messages that were delivered to the port, and nothing else changed
-- rule: PORT-18
pub record MeetsReader (port : PortNo) (before after : PortReader) (old new : LiveLink) : Type 0 where
  pub link : new ≡ old
  pub reader : after ≡ told before after.mailbox.reader.known
  pub more : StartsWith after.mailbox.reader.known before.mailbox.reader.known
  pub met : HasOutletAt new port (λ outlet. HasMetPort outlet after)
  pub known : after.mailbox.reader.known ≡ deliveries_of old port

-- The end that takes of this port's queue met it: it knows all messages that were delivered to the port, and how many
-- overflowed right before each, and the queue all that it took. Each outlet is the same still and was given nothing, and nothing else changed.
-- rule: PORT-18
pub record MeetsTaker (port : PortNo) (before after : Known) (old new : LiveLink) : Type 0 where
  pub core : new.core ≡ old.core
  pub received : new.received ≡ old.received
  pub outlets : (at : ℕ) → GivesAt GivesPort (slice_get old.outlets at) (slice_get new.outlets at) []
  pub others : (at : ℕ) → at ≢ port.0 → slice_get new.outlets at ≡ slice_get old.outlets at
  pub taker : after ≡ record before { put = after.put }
  pub known : BeginsWith after.put before.put
  pub begins : BeginsWith after.put after.taken
  pub held : length after.put ≤ length after.taken + before.depth
  pub met : HasOutletAt new port (λ outlet. HasMetQueue outlet after)
  pub put : messages_in after.put ≡ deliveries_of old port
  pub losses : losses_in after.put ≡ map shown (losses_of old port)
