-- Reassembly at a link: the groups of fragments that stand there (RFC 791 3.2).
use Rattle.std.specs.Prelude.{ℕ, Bool, true, false, List, [], ◌∷◌, Option, None, Some, Result}
use Rattle.std.specs.Result.{result_ok}
use Rattle.es_base.specs.declared.event.Event.{Event}
use Rattle.es_base.specs.declared.fault.PacketFault.{PacketFault}
use Rattle.es_base.specs.Frame.{inner_of}
use Rattle.es_base.specs.Packet.{PacketParts, packet_of}
use Rattle.es_base.specs.Past.{arrival_of}
use Rattle.link_rules.specs.Redundancy.{is_forwarded}
use Rattle.link_rules.specs.Groups.{Group, groups_after}
use Rattle.es_base.specs.Settings.{Settings}

-- the packet of a frame
abbrev pub packet_in : List ℕ → Result PacketParts PacketFault
packet_in frame = packet_of (inner_of frame)

-- the packet that reassembly is offered: that of a frame that is forwarded, unless its header has a fault
-- rule: REAS-1
abbrev pub offered : Bool → List ℕ → Option PacketParts
offered false frame = None
offered true frame = result_ok (packet_in frame)

-- the groups after a time at which reassembly was offered this
abbrev pub groups_by : ℕ → List Group → Option PacketParts → ℕ → List Group
groups_by limit groups None time = groups
groups_by limit groups (Some packet) time = groups_after limit groups packet time

-- the groups of pieces that stand at a link, in the order in which they began
abbrev pub groups_in : Settings → List Event → List Group
groups_in settings [] = []
groups_in settings (e ∷ past) =
    groups_by settings.reassembly (groups_in settings past) (offered (is_forwarded settings past (arrival_of e)) e.frame) e.time
