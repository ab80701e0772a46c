-- What became of the messages for a port.
use Rattle.std.specs.Prelude.{◌≡◌, ℕ, List, slice_get, length, nat_lt, Option, None, Some, if◌then◌else◌}
use Rattle.es_base.specs.declared.place.Net.{Net}
use Rattle.es_base.specs.declared.place.Net.TheVariants as nets
use Rattle.es_base.specs.Port.{Port}
use Rattle.link_core.specs.Counted.{port_no}
use Rattle.link_core.specs.Ports.{AreCountsOf}
use Rattle.link_core.specs.declared.port_tally.Newest.{Newest}
use Rattle.link_core.specs.declared.port_tally.PortCounts.{PortCounts}
use Rattle.receiver.specs.declared.port.PortOutlet.{PortOutlet}
use Rattle.receiver.specs.Link.{Ported}
use Rattle.receiver_slots.specs.Codes.{done, no_place, not_open}
use Rattle.receiver_slots.specs.Receiving.{Receiving}
use Rattle.receiver_slots.specs.declared.told.port_counts.PortCountsReply.{PortCountsReply}

abbrev pub net_number : Net → ℕ
net_number nets.A = 0
net_number nets.B = 1

-- 1 if there is a message, else 0
abbrev pub came_of_newest : Option Newest → ℕ
came_of_newest None = 0
came_of_newest (Some newest) = 1

-- the network that brought it, and when
abbrev pub net_of_newest : Option Newest → ℕ
net_of_newest None = 0
net_of_newest (Some newest) = net_number newest.net

abbrev pub time_of_newest : Option Newest → ℕ
time_of_newest None = 0
time_of_newest (Some newest) = newest.time

abbrev pub port_counts_reply_of : PortCounts → PortCountsReply
port_counts_reply_of counts = record {
  delivered = counts.delivered;
  overflowed = counts.overflowed;
  too_long = counts.too_long;
  fragmented = counts.fragmented;
  came = came_of_newest counts.newest;
  net = net_of_newest counts.newest;
  latest = time_of_newest counts.newest;
}

-- a port is there, or isn't
abbrev pub ports_code : List Port → ℕ → ℕ
ports_code ports port = if nat_lt port (length ports) then done else no_place

abbrev pub link_port_code : Option (Ported PortOutlet) → ℕ → ℕ
link_port_code None port = no_place
link_port_code (Some link) port = ports_code link.core.settings.ports port

abbrev pub port_counts_code : Option Receiving → ℕ → ℕ → ℕ
port_counts_code None place port = not_open
port_counts_code (Some now) place port = link_port_code (slice_get now.opened.links place) port

-- what became of the messages that the past of the link at this place brought for this port
-- rule: EMB-45
abbrev pub TellsPortCounts : Option Receiving → ℕ → ℕ → PortCountsReply → Type 0
TellsPortCounts None place port reply = ⊥
TellsPortCounts (Some now) place port reply =
    (link : Ported PortOutlet) × (slice_get now.opened.links place ≡ Some link)
    × (counts : PortCounts) × AreCountsOf link.core.settings link.core.past (port_no port) counts × (reply ≡ port_counts_reply_of counts)
