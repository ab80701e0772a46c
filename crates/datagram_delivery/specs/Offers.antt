-- What reassembly is offered by any past of a link: no sender and no network is asked.
use Rattle.std.specs.Prelude.{List, [], ◌∷◌, Option, None, Some}
use Rattle.es_base.specs.declared.event.Event.{Event}
use Rattle.es_base.specs.Past.{arrival_of}
use Rattle.es_base.specs.Packet.{PacketParts}
use Rattle.link_rules.specs.Reassembly.{offered}
use Rattle.link_rules.specs.Redundancy.{is_forwarded}
use Rattle.es_base.specs.Settings.{Settings}
use Rattle.datagram_delivery.specs.Splitting.{Offer}

-- an offer of a packet, if there is one, at the time of an event
abbrev pub offer_with : Option PacketParts → Event → List Offer → List Offer
offer_with None e before = before
offer_with (Some packet) e before = record { packet = packet; time = e.time; room = e.room } ∷ before

-- the packets of the frames that were forwarded, but for those whose header has a fault
-- rule: DELIV-7
abbrev pub offered_in : Settings → List Event → List Offer
offered_in settings [] = []
offered_in settings (e ∷ past) = offer_with (offered (is_forwarded settings past (arrival_of e)) e.frame) e (offered_in settings past)
