-- A message that arrives at a link: whatever came before its sender's copies, and whatever comes after it.
use Rattle.std.specs.Prelude.{◌≡◌, ◌<◌, ℕ, true, List, ◌∷◌, ◌++◌}
use Rattle.es_base.specs.declared.event.Event.{Event}
use Rattle.link_rules.specs.Deliveries.{number_delivered}
use Rattle.es_base.specs.Limits.{most_samples}
use Rattle.link_rules.specs.Outcome.{Payload}
use Rattle.es_base.specs.Packet.{PacketParts}
use Rattle.es_base.specs.Past.{arrival_of}
use Rattle.es_base.specs.Settings.{Settings}
use Rattle.frame_delivery.specs.Messages.{has_room}
use Rattle.frame_delivery.specs.Network.{Timing}
use Rattle.frame_delivery.specs.Once.{is_new, new_copies}
use Rattle.frame_delivery.specs.Sending.{Copy, Numbering, events_since}
use Rattle.frame_delivery.specs.Since.{PassTimely, counts, forwarded_since, passing_since}
use Rattle.datagram_delivery.specs.Datagrams.{CarryPackets, offers_of, Completes}
use Rattle.datagram_delivery.specs.Offers.{offered_in}

-- A message arrives at a time in a past of a link. After an old past, whatever came in it, the copies that pass are of a
-- sender's frames and come in time; the last of them is of a later frame than all before it, and completes the message; its
-- queue had room. It doesn't matter which others were lost or came after one of a later frame, nor what came after it.
pub record Arrives (settings : Settings) (past : List Event) (payload : Payload) (time : ℕ) : Type 0 where
  pub later : List Event
  pub copy : Copy
  pub before : List Copy
  pub old : List Event
  pub is : past ≡ later ++ events_since (copy ∷ before) old
  pub numbering : Numbering
  pub timing : Timing
  pub pass : PassTimely settings numbering timing old (copy ∷ before)
  pub packet : ℕ → PacketParts
  pub carry : CarryPackets packet (forwarded_since settings old (copy ∷ before))
  pub counted : counts settings (events_since before old) (arrival_of copy.event) (passing_since settings old before) ≡ true
  pub new : is_new copy.index (passing_since settings old before) ≡ true
  pub completes : Completes settings payload (offers_of packet (new_copies (passing_since settings old before)) ++ offered_in settings old) (record { packet = packet copy.index; time = copy.event.time; room = copy.event.room })
  pub room : has_room payload.kind copy.event.room ≡ true
  pub few : number_delivered settings (events_since before old) payload.port < most_samples
  pub at : time ≡ copy.event.time

-- the events that came before the copy with which it arrives
abbrev pub past_before : {settings : Settings} {past : List Event} {payload : Payload} {time : ℕ} → Arrives settings past payload time → List Event
past_before one = events_since one.before one.old
