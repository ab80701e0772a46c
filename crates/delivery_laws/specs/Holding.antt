-- What the ports of a settled link hold, and what the ends of these ports have once they met it.
use Rattle.std.specs.Prelude.{◌≡◌, ℕ, List, map, slice_get, Some}
use Rattle.std.specs.List.{All}
use Rattle.es_base.specs.declared.place.LinkNo.{LinkNo}
use Rattle.es_base.specs.Config.{link_of}
use Rattle.ip_reassembly.specs.Kept.{Kept}
use Rattle.link_core.specs.declared.nets.NetStates.{NetStates}
use Rattle.link_core.specs.declared.rules_state.RulesState.{RulesState}
use Rattle.link_core.specs.Counted.{port_no}
use Rattle.sampling_port.specs.Ends.{ReaderEnd, is_told}
use Rattle.link_receiver.specs.declared.ends.PortEnd.{PortEnd}
use Rattle.link_receiver.specs.declared.ends.PortEnd.TheVariants as ends
use Rattle.link_receiver.specs.declared.outlet.Outlet.{Outlet}
use Rattle.link_receiver.specs.Ends.{IsOfItsPort}
use Rattle.link_receiver.specs.Kept.{IsLinkKept}
use Rattle.link_receiver.specs.Link.{Link, all_deliveries_of, message_words, past_of, published_at}
use Rattle.link_receiver.specs.Outlet.{ShowsDelivered, channel_of}
use Rattle.datagram_delivery.specs.Interleaved.{BringDatagrams, Carried, messages_ended}
use Rattle.end_system.specs.declared.ends.LinkEnds.{LinkEnds}
use Rattle.network_calls.specs.Passes.{System}

-- ---- the outlets of a link

-- the outlets of a state of the link, with the link's channels, which keeps them as each `LinkState` does
abbrev pub AreOutletsOf : Link → List Outlet → Type 0
AreOutletsOf link outlets =
    (taken : ℕ) × (pieces : Kept) × (nets : NetStates) × (now : RulesState) × IsLinkKept link.settings link.before link.history taken pieces nets now outlets × (map channel_of outlets ≡ link.channels)

-- ---- the ends of its ports

-- an end of a port after it met the link: a taker as `LinkState::meet_taker` leaves it, readers as `LinkState::meet`
-- leaves each
abbrev pub after_meeting : Link → PortEnd → PortEnd
after_meeting link (ends.Queuing port name taker) = ends.Queuing port name (record taker { put = all_deliveries_of link port })
after_meeting link (ends.Sampling port name readers) = ends.Sampling port name (map (λ (reader : ReaderEnd). is_told reader (published_at link port)) readers)

-- an end knows the messages of these datagrams to be put into its queue, or its readers saw their words
abbrev pub KnowsEach : List Carried → PortEnd → Type 0
KnowsEach carried (ends.Queuing port name taker) = taker.put ≡ messages_ended port carried
KnowsEach carried (ends.Sampling port name readers) = All (λ (reader : ReaderEnd). reader.seen ≡ map message_words (messages_ended port carried)) readers

-- ---- one link

-- A link that holds the messages of these datagrams, each once, in the order of sending, over all epochs. Each port's
-- outlet put them into its queue, or published their words. The ends of the opening, wherever they are by then, may
-- meet the link, and each end that meets it has these messages, and no others.
pub record HoldsEach (link : Link) (carried : List Carried) (of_opening : LinkEnds) : Type 0 where
  pub outlets : (outlets : List Outlet) → AreOutletsOf link outlets → (at : ℕ) → ShowsDelivered (slice_get outlets at) (messages_ended (port_no at) carried)
  pub may_meet : All (IsOfItsPort link.channels) of_opening.ports.items
  pub met : (end : PortEnd) → KnowsEach carried (after_meeting link end)

-- each link of the configuration holds the messages of the datagrams that its events bring, over all epochs
-- rule: DELIV-14
abbrev pub EachHolds : System → List LinkEnds → List Link → Type 0
EachHolds system ends links =
    (vl : LinkNo) (place : ℕ) → link_of system.config.links vl ≡ Some place
    → (link : Link) × (of_opening : LinkEnds) × (slice_get system.config.links place ≡ Some link.settings) × (link.settings.vl ≡ vl) × (slice_get links place ≡ Some link) × (slice_get ends place ≡ Some of_opening)
    × ((carried : List Carried) → BringDatagrams link.settings (past_of link) carried → HoldsEach link carried of_opening)
