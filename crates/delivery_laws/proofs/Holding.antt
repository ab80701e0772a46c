-- What the ports of a settled link hold.
use Rattle.std.proofs.Common.{◌≡◌, ◌∙◌, ap, subst, sym, ℕ, List, [], ◌∷◌, map}
use Rattle.std.specs.Prelude.{slice_get, Some}
use Rattle.std.specs.List.{All}
use Rattle.std.proofs.lemmas.List.Elements.{All-cons, All-nil}
use Rattle.es_base.specs.declared.event.Message.{Message}
use Rattle.es_base.specs.declared.place.Net.{Net}
use Rattle.es_base.specs.Settings.{Settings}
use Rattle.link_core.specs.Counted.{port_no}
use Rattle.sampling_port.specs.Ends.{ReaderEnd, is_told}
use Rattle.link_receiver.specs.declared.ends.PortEnd.{PortEnd}
use Rattle.link_receiver.specs.declared.ends.PortEnd.TheVariants as ends
use Rattle.link_receiver.specs.declared.outlet.Outlet.{Outlet}
use Rattle.link_receiver.specs.Ends.{IsOfItsPort}
use Rattle.link_receiver.specs.Link.{Link, message_words, past_of, published_at}
use Rattle.link_receiver.specs.Outlet.{ShowsDelivered}
use Rattle.datagram_delivery.specs.Interleaved.{BringDatagrams, Carried, messages_ended}
use Rattle.datagram_delivery.proofs.Arriving.{brought_by}
use Rattle.end_system.specs.declared.ends.LinkEnds.{LinkEnds}
use Rattle.end_system.specs.Run.{HasEnded, Step}
use Rattle.network_calls.specs.Passes.{System}
use Rattle.network_calls.specs.Counts.{KnownCounts}
use Rattle.delivery_laws.specs.Holding.{AreOutletsOf, EachHolds, HoldsEach, KnowsEach, after_meeting}

outlets_hold : (link : Link) (carried : List Carried) (outlets : List Outlet) (at : ℕ) → BringDatagrams link.settings (past_of link) carried → AreOutletsOf link outlets
    → ShowsDelivered (slice_get outlets at) (messages_ended (port_no at) carried)
outlets_hold link carried outlets at bring (taken, pieces, nets, now, is, of_channels) =
    subst (λ (messages : List Message). ShowsDelivered (slice_get outlets at) messages) (brought_by link.settings (past_of link) carried (port_no at) bring) (is.all.shown at)

all_told : (published wanted : List (List ℕ)) (readers : List ReaderEnd) → published ≡ wanted → All (λ (reader : ReaderEnd). reader.seen ≡ wanted) (map (λ (reader : ReaderEnd). is_told reader published) readers)
all_told published wanted [] is = All-nil (λ (reader : ReaderEnd). reader.seen ≡ wanted)
all_told published wanted (reader ∷ readers) is =
    All-cons (λ (reader : ReaderEnd). reader.seen ≡ wanted) (is_told reader published) (map (λ (reader : ReaderEnd). is_told reader published) readers) is (all_told published wanted readers is)

knows_each : (link : Link) (carried : List Carried) (end : PortEnd) → BringDatagrams link.settings (past_of link) carried → KnowsEach carried (after_meeting link end)
knows_each link carried (ends.Queuing port name taker) bring = brought_by link.settings (past_of link) carried port bring
knows_each link carried (ends.Sampling port name readers) bring =
    all_told (published_at link port) (map message_words (messages_ended port carried)) readers
    (ap (λ (messages : List Message). map message_words messages) (brought_by link.settings (past_of link) carried port bring))

holds_each : (link : Link) (carried : List Carried) (of_opening : LinkEnds) → All (IsOfItsPort link.channels) of_opening.ports.items → BringDatagrams link.settings (past_of link) carried → HoldsEach link carried of_opening
holds_each link carried of_opening may bring = record {
  outlets = λ outlets are at. outlets_hold link carried outlets at bring are;
  may_meet = may;
  met = λ end. knows_each link carried end bring;
}

pub each_holds : (system : System) (steps : List (Net × Step)) (ends : List LinkEnds) (links : List Link) (a b : KnownCounts) → HasEnded system steps ends links a b → EachHolds system ends links
each_holds system steps ends links a b ended vl place named =
    let (settings, link, there, numbered, link_there, run) = ended.each vl place named in (
      link,
      run.its_ends,
      there ∙ ap (λ (o : Settings). Some o) (sym run.with_settings),
      ap (λ (o : Settings). o.vl) run.with_settings ∙ numbered,
      link_there,
      run.there,
      λ carried bring. holds_each link carried run.its_ends run.each bring,
    )
