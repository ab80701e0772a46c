-- A network's pass in a slot.
use Rattle.std.specs.Prelude.{◌≡◌, ◌<◌, ◌⊎◌, ℕ, List, slice_get, length, nat_lt, Option, None, Some, if◌then◌else◌}
use Rattle.es_base.specs.Addressing.{ComesToPlace}
use Rattle.es_base.specs.Limits.{filter_causes}
use Rattle.es_base.specs.Settings.{Settings}
use Rattle.es_base.specs.Tally.{count_in, is_kind}
use Rattle.es_base.specs.Verdict.{verdict_kinds}
use Rattle.link_core.specs.Counted.{port_no, shown}
use Rattle.link_core.specs.Past.{number_given_up}
use Rattle.link_core.specs.declared.port_tally.PortCounts.{PortCounts}
use Rattle.network_calls.specs.Calls.{count_calls}
use Rattle.receiver.specs.declared.receiver.Reply.{Reply}
use Rattle.network_calls.specs.Passes.{KnownNet, System, calls_with}
use Rattle.live_system.specs.Checked.{latest_of}
use Rattle.live_system.specs.Fill.{TellsOfQueue}
use Rattle.live_system.specs.Health.{TellsOfPort}
use Rattle.live_system.specs.Meetings.{VisitsAt}
use Rattle.live_system.specs.Pass.{KnownLink, Visits}
use Rattle.live_system.specs.System.{IsPassOf, Replies, keeping_no_frame}
use Rattle.receiver_slots.specs.Codes.{busy, done, no_kind, no_place, not_open}
use Rattle.receiver_slots.specs.Health.{link_health_reply_of, queue_code}
use Rattle.receiver_slots.specs.PortCounts.{port_counts_reply_of, ports_code}
use Rattle.receiver_slots.specs.Replies.{frame_reply_of}
use Rattle.receiver_slots.specs.declared.told.port_counts.PortCountsReply.{PortCountsReply}
use Rattle.receiver_slots.specs.declared.told.replies.FillReply.{FillReply}
use Rattle.receiver_slots.specs.declared.told.replies.FrameReply.{FrameReply}
use Rattle.receiver_slots.specs.declared.told.replies.LinkHealthReply.{LinkHealthReply}

-- the pass of one network, and the system that it is of
pub record Passing : Type 0 where
  pub system : System
  pub pass : KnownNet KnownLink

-- ---- a frame

-- the frame came at this time on the network of the pass; what the system replied is told, and the pass has one call
-- more
pub record ReceivesBy (old new : Passing) (now : ℕ) (octets : List ℕ) (told : FrameReply) : Type 0 where
  pub system : new.system ≡ old.system
  pub own : IsPassOf new.system new.pass
  pub net : new.pass.net ≡ old.pass.net
  pub reply : Reply
  pub replies : Replies old.system.config old.pass now octets reply new.pass
  pub tells : told ≡ frame_reply_of reply

-- rule: EMB-26
abbrev pub Receives : Option Passing → Option Passing → ℕ → List ℕ → FrameReply → Type 0
Receives (Some old) (Some new) now octets told = ReceivesBy old new now octets told
Receives (Some old) None now octets told = ⊥
Receives None new now octets told = ⊥

-- the frame comes to a link
abbrev pub ComesToLink : Option Passing → List ℕ → Type 0
ComesToLink None octets = ⊥
ComesToLink (Some now) octets = (place : ℕ) × ComesToPlace now.system.config octets place

-- ---- health

-- of the link at this place: the latest frame that the pass gave it; the number of its frames, and the groups of pieces
-- given up, at one moment of the call, in which nothing changed
-- rule: EMB-41
pub record TellsLinkHealthOf (now : Passing) (link : ℕ) (told : LinkHealthReply) : Type 0 where
  pub on : KnownLink
  pub there : slice_get now.pass.links link ≡ Some on
  pub visits : Visits on (λ found left. (left ≡ found) × (told ≡ link_health_reply_of (latest_of on.calls) (shown (length found.core.past)) (shown (number_given_up found.core.settings found.core.past))))

abbrev pub TellsLinkHealth : Option Passing → ℕ → LinkHealthReply → Type 0
TellsLinkHealth None link told = ⊥
TellsLinkHealth (Some now) link told = TellsLinkHealthOf now link told

-- a pass that is open, at a link that there is
abbrev pub IsPlaceOfPass : Option Passing → ℕ → Type 0
IsPlaceOfPass None link = ⊥
IsPlaceOfPass (Some now) link = link < length now.system.config.links

-- ---- how full a queue is

-- the code for a port of the link with these settings: one that samples has no queue
abbrev pub settings_queue_code : Option Settings → ℕ → ℕ
settings_queue_code None port = no_place
settings_queue_code (Some settings) port = queue_code (slice_get settings.ports port)

-- the code while nobody has the link
abbrev pub pass_fill_code : Option Passing → ℕ → ℕ → ℕ
pass_fill_code None link port = not_open
pass_fill_code (Some now) link port = settings_queue_code (slice_get now.system.config.links link) port

-- the code of a call that may find its link taken by the other network's thread: this one, or BUSY in the place of DONE
-- rule: EMB-44
abbrev pub IsCodeOrBusy : ℕ → ℕ → Type 0
IsCodeOrBusy code result = (result ≡ code) ⊎ ((code ≡ done) × (result ≡ busy))

-- the fill level of the queue of this port, by a look of its end of the queue in this call
abbrev pub TellsFillOf : Passing → ℕ → ℕ → FillReply → Type 0
TellsFillOf now link port told =
    VisitsAt now.pass.links link (TellsOfQueue (port_no port) (Some (record { waiting = told.waiting; greatest = told.greatest })))

-- rule: EMB-44
abbrev pub TellsFillByPass : Option Passing → ℕ → ℕ → FillReply → Type 0
TellsFillByPass None link port told = ⊥
TellsFillByPass (Some now) link port told = TellsFillOf now link port told

-- ---- what became of a port's messages

abbrev pub settings_port_code : Option Settings → ℕ → ℕ
settings_port_code None port = no_place
settings_port_code (Some settings) port = ports_code settings.ports port

-- the code while nobody has the link
abbrev pub pass_port_code : Option Passing → ℕ → ℕ → ℕ
pass_port_code None link port = not_open
pass_port_code (Some now) link port = settings_port_code (slice_get now.system.config.links link) port

-- of the messages for this port, of both networks, at one moment of the call
abbrev pub TellsPortOf : Passing → ℕ → ℕ → PortCountsReply → Type 0
TellsPortOf now link port told =
    (counts : PortCounts) × VisitsAt now.pass.links link (TellsOfPort (port_no port) (Some counts)) × (told ≡ port_counts_reply_of counts)

-- rule: EMB-47
abbrev pub TellsPortByPass : Option Passing → ℕ → ℕ → PortCountsReply → Type 0
TellsPortByPass None link port told = ⊥
TellsPortByPass (Some now) link port told = TellsPortOf now link port told

-- ---- counts

abbrev pub count_code : Option Passing → ℕ → ℕ → ℕ
count_code None link kind = not_open
count_code (Some now) link kind = if is_kind verdict_kinds kind then (if nat_lt link (length now.system.config.links) then done else no_place) else no_kind

-- `count` is the number of frames of the link at this place on the pass's network with a verdict of this kind
-- rule: EMB-27
abbrev pub CountsFrames : Option Passing → ℕ → ℕ → ℕ → Type 0
CountsFrames None link kind count = ⊥
CountsFrames (Some now) link kind count =
    (settings : Settings) × (slice_get now.system.config.links link ≡ Some settings) × (count ≡ shown (count_calls kind (calls_with keeping_no_frame settings.vl now.pass.links)))

abbrev pub filtered_code : Option Passing → ℕ → ℕ
filtered_code None cause = not_open
filtered_code (Some now) cause = if is_kind filter_causes cause then done else no_kind

-- `count` is the number of frames filtered on the pass's network for this cause
-- rule: EMB-27
abbrev pub TellsFiltered : Option Passing → ℕ → ℕ → Type 0
TellsFiltered None cause count = ⊥
TellsFiltered (Some now) cause count = count ≡ count_in now.pass.filtered now.pass.net cause
