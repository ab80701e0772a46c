-- Health of a link, and the fill level of a port's queue.
use Rattle.std.specs.Prelude.{◌≡◌, ℕ, slice_get, length, nat_lt, Option, None, Some, if◌then◌else◌}
use Rattle.es_base.specs.declared.place.Net.TheVariants as nets
use Rattle.es_base.specs.Port.{Port, is_sampling}
use Rattle.link_core.specs.Counted.{port_no, shown}
use Rattle.link_core.specs.Past.{latest_on, number_given_up}
use Rattle.receiver.specs.declared.port.PortOutlet.{PortOutlet}
use Rattle.receiver.specs.Link.{Ported}
use Rattle.receiver.specs.Port.{GivesPort}
use Rattle.receiver.specs.Receiver.{LinksStay}
use Rattle.receiver.specs.Fill.{IsFillAt, LooksIn}
use Rattle.receiver.specs.declared.queue.Fill.{Fill}
use Rattle.receiver_slots.specs.Codes.{done, no_place, none_left, not_open}
use Rattle.receiver_slots.specs.Receiving.{Receiving}
use Rattle.receiver_slots.specs.Replies.{or_0}
use Rattle.receiver_slots.specs.declared.told.replies.FillReply.{FillReply}
use Rattle.receiver_slots.specs.declared.told.replies.HealthReply.{HealthReply}
use Rattle.receiver_slots.specs.declared.told.replies.LinkHealthReply.{LinkHealthReply}

-- 0: no frame came; 1: one came
abbrev pub came_number : Option ℕ → ℕ
came_number None = 0
came_number (Some time) = 1

abbrev pub health_reply_of : Ported PortOutlet → HealthReply
health_reply_of link = record {
  came_a = came_number (latest_on link.core.past nets.A);
  came_b = came_number (latest_on link.core.past nets.B);
  latest_a = or_0 (latest_on link.core.past nets.A);
  latest_b = or_0 (latest_on link.core.past nets.B);
  given_up = shown (number_given_up link.core.settings link.core.past);
}

-- by the time of its latest frame on a network, and the numbers of its frames and of the groups of pieces given up
abbrev pub link_health_reply_of : Option ℕ → ℕ → ℕ → LinkHealthReply
link_health_reply_of latest received given_up = record { came = came_number latest; latest = or_0 latest; received = received; given_up = given_up }

abbrev pub health_code : Option Receiving → ℕ → ℕ
health_code None place = not_open
health_code (Some now) place = if nat_lt place (length now.opened.links) then done else no_place

-- the health of the link at this place
-- rule: EMB-21
abbrev pub TellsHealth : Option Receiving → ℕ → HealthReply → Type 0
TellsHealth None place reply = ⊥
TellsHealth (Some now) place reply = (link : Ported PortOutlet) × (slice_get now.opened.links place ≡ Some link) × (reply ≡ health_reply_of link)

-- ---- how full a queue is

-- a port that samples has no queue
abbrev pub queue_code : Option Port → ℕ
queue_code None = no_place
queue_code (Some port) = if is_sampling port.kind then none_left else done

abbrev pub link_queue_code : Option (Ported PortOutlet) → ℕ → ℕ
link_queue_code None port = no_place
link_queue_code (Some link) port = queue_code (slice_get link.core.settings.ports port)

abbrev pub fill_code : Option Receiving → ℕ → ℕ → ℕ
fill_code None place port = not_open
fill_code (Some now) place port = link_queue_code (slice_get now.opened.links place) port

abbrev pub fill_reply_of : Fill → FillReply
fill_reply_of fill = record { waiting = fill.waiting; greatest = fill.greatest }

-- the fill level of this port's queue, by a look of its end of the queue in this call
abbrev pub TellsFillOn : Receiving → Receiving → ℕ → ℕ → FillReply → Type 0
TellsFillOn old new place port reply =
    LinksStay GivesPort old.opened new.opened × (new.ends ≡ old.ends)
    × ((link : Ported PortOutlet) × (slice_get new.opened.links place ≡ Some link)
    × IsFillAt link (port_no port) (Some (record { waiting = reply.waiting; greatest = reply.greatest })))
    × LooksIn (slice_get old.opened.links place) (slice_get new.opened.links place) (port_no port)

-- rule: EMB-21
abbrev pub TellsFill : Option Receiving → Option Receiving → ℕ → ℕ → FillReply → Type 0
TellsFill (Some old) (Some new) place port reply = TellsFillOn old new place port reply
TellsFill (Some old) None place port reply = ⊥
TellsFill None new place port reply = ⊥
