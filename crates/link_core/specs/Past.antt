-- What a program may ask of a link's past, and no rule reads.
use Rattle.std.specs.Prelude.{ℕ, ◌+◌, List, [], ◌∷◌, Option, None, Some, if◌then◌else◌}
use Rattle.es_base.specs.declared.place.Net.{Net}
use Rattle.es_base.specs.declared.event.Event.{Event}
use Rattle.es_base.specs.Packet.{PacketParts}
use Rattle.es_base.specs.Settings.{Settings}
use Rattle.es_base.specs.Past.{arrival_of}
use Rattle.es_base.specs.Networks.{is_same_net}
use Rattle.link_rules.specs.Redundancy.{is_forwarded}
use Rattle.link_rules.specs.Groups.{Group}
use Rattle.link_rules.specs.Reassembly.{groups_in, offered}
use Rattle.ip_reassembly.specs.GivenUp.{given_up}

-- when the latest frame came on a network, in microseconds, whatever became of it
-- rule: EMB-6
abbrev pub latest_on : List Event → Net → Option ℕ
latest_on [] net = None
latest_on (e ∷ past) net = if is_same_net e.net net then Some e.time else latest_on past net

-- number of these groups that are given up at a time at which reassembly is offered this
abbrev pub given_up_by : ℕ → List Group → Option PacketParts → ℕ → ℕ
given_up_by limit groups None time = 0
given_up_by limit groups (Some packet) time = given_up limit groups packet time

-- number of groups of pieces given up at a link
-- rule: REAS-15
abbrev pub number_given_up : Settings → List Event → ℕ
number_given_up settings [] = 0
number_given_up settings (e ∷ past) =
    number_given_up settings past
    + given_up_by settings.reassembly (groups_in settings past) (offered (is_forwarded settings past (arrival_of e)) e.frame) e.time
