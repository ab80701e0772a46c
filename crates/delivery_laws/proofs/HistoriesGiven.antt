-- What an end system gives to the ports of a link.
use Rattle.std.proofs.Common.{◌≡◌, ◌∙◌, ap, ℕ, List, ◌∷◌, map}
use Rattle.std.proofs.lemmas.List.{map-append}
use Rattle.es_base.specs.declared.event.Message.{Message}
use Rattle.es_base.specs.declared.place.Net.{Net}
use Rattle.es_base.specs.declared.place.PortNo.{PortNo}
use Rattle.link_rules.specs.Deliveries.{deliveries}
use Rattle.link_rules.specs.Outcome.{Payload}
use Rattle.link_receiver.specs.Link.{Link, message_words, past_of}
use Rattle.datagram_delivery.specs.Arriving.{Arrives, past_before}
use Rattle.datagram_delivery.specs.Interleaved.{BringDatagrams, Carried, messages_ended}
use Rattle.datagram_delivery.proofs.Arriving.{arriving_is_delivered, brought_by}
use Rattle.datagram_delivery.proofs.Offered.{deliveries_by_offers}
use Rattle.end_system.specs.declared.ends.LinkEnds.{LinkEnds}
use Rattle.end_system.specs.Run.{HasEnded, Step}
use Rattle.network_calls.specs.Counts.{KnownCounts}
use Rattle.network_calls.specs.Passes.{System}
use Rattle.delivery_laws.specs.Histories.{DeliversEach, GivesEach, WasGiven, WereGiven}

were_given : (link : Link) (carried : List Carried) (port : PortNo) → BringDatagrams link.settings (past_of link) carried → WereGiven link carried port
were_given link carried port bring =
    let given : deliveries link.settings (past_of link) port ≡ messages_ended port carried = brought_by link.settings (past_of link) carried port bring in
    record {
      put = given;
      seen = ap (λ (messages : List Message). map message_words messages) given;
    }

was_given : (link : Link) (payload : Payload) (time : ℕ) → (one : Arrives link.settings (past_of link) payload time) → WasGiven link payload time one
was_given link payload time one =
    let message : Message = record { time = time; octets = payload.octets } in let (later, given) = arriving_is_delivered link.settings (past_of link) payload time one in
    record {
      later = later;
      put = given;
      seen = ap (λ (messages : List Message). map message_words messages) given ∙ map-append message_words (deliveries link.settings (past_before one) payload.port) (message ∷ later);
    }

gives_each : (link : Link) → GivesEach link
gives_each link = record {
  offered = deliveries_by_offers link.settings (past_of link);
  arrived = was_given link;
  brought = λ carried bring port. were_given link carried port bring;
}

pub delivers_each : (system : System) (steps : List (Net × Step)) (ends : List LinkEnds) (links : List Link) (a b : KnownCounts) → HasEnded system steps ends links a b → DeliversEach system steps ends links
delivers_each system steps ends links a b ended vl place named =
    let (settings, link, there, numbered, state_there, run) = ended.each vl place named in
    (settings, link, numbered, state_there, run, gives_each link)
