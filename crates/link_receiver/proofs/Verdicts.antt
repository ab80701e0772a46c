-- The message that an event delivers, after a past of which it is the next, is the one that its verdict tells of.
use Rattle.std.proofs.Common.{◌≡◌, ◌∙◌, ap, sym, ℕ, Bool, true, false, ◌&&◌, List, [], ◌∷◌, ◌++◌, append-nil, Option, None, refl, if◌then◌else◌, reverse, take, drop}
use Rattle.std.specs.Option.{option_to_list}
use Rattle.std.specs.List.{All}
use Rattle.std.proofs.lemmas.List.Elements.{All-head, All-tail}
use Rattle.es_base.specs.declared.place.PortNo.{PortNo}
use Rattle.es_base.specs.declared.verdict.Verdict.{Verdict}
use Rattle.es_base.specs.declared.event.Arrival.{Arrival}
use Rattle.es_base.specs.declared.event.Event.{Event}
use Rattle.es_base.specs.declared.event.Message.{Message}
use Rattle.es_base.specs.Past.{arrival_of}
use Rattle.link_rules.specs.Redundancy.{is_forwarded}
use Rattle.link_rules.specs.Reassembly.{groups_in, offered}
use Rattle.link_rules.specs.Outcome as way
use Rattle.link_rules.specs.Deliveries.{delivered, deliveries, is_same_port, number_delivered, takes_one_more}
use Rattle.link_rules.specs.Run.{IsRun, decided, settled}
use Rattle.link_core.specs.Told.{IsLawfulAfter, tells_delivered}
use Rattle.link_receiver.specs.Walk.{IsMessageOf}
use Rattle.link_receiver.proofs.Walks.{all_reverse, parts_after}
use Rattle.link_core.proofs.Brought.{IsOutcome, outcome_is}
use Rattle.link_core.proofs.Verdicts.{told_at}
use Rattle.es_base.specs.Settings.{Settings}

-- ---- what it delivered

delivers_by : (o : Settings) (past : List Event) (a : Arrival) (outcome : way.Outcome) (before : PortNo → ℕ) (room : Bool) (port : PortNo) (verdict : Verdict) (message : Option Message)
    → IsOutcome o past a outcome → verdict ≡ settled (decided outcome before) room
    → IsMessageOf (tells_delivered verdict port) o.reassembly (groups_in o past) (offered (is_forwarded o past a) a.frame) a.time message
    → option_to_list message ≡ delivered outcome room a.time port (before port)
delivers_by o past a way.out_of_sequence before room port verdict message brought is has = rw (rw is at has) refl
delivers_by o past a way.redundant before room port verdict message brought is has = rw (rw is at has) refl
delivers_by o past a (way.refused refusal) before room port verdict message brought is has = rw (rw (is, brought.1.nowhere port) at has) refl
delivers_by o past a (way.brings payload) before room port verdict message brought is has =
    let test = is_same_port payload.port port && takes_one_more payload.kind room (before port) in
    let told : tells_delivered verdict port ≡ test = ap (λ v. tells_delivered v port) is ∙ told_at payload.kind payload.port port before room in
    go test (rw told at has)
  where
    go : (delivers : Bool) → IsMessageOf delivers o.reassembly (groups_in o past) (offered (is_forwarded o past a) a.frame) a.time message
        → option_to_list message ≡ (if delivers then record { time = a.time; octets = payload.octets } ∷ [] else [])
    go false none = rw none refl
    go true one =
        let stands = brought.1 in
        rw (one stands.packet stands.octets stands.joined stands.has.udp stands.is stands.completes stands.has.read, stands.has.payload_is) refl

pub delivers_it : (o : Settings) (past : List Event) (e : Event) (port : PortNo) (message : Option Message) → IsLawfulAfter o past e
    → IsMessageOf (tells_delivered e.verdict port) o.reassembly (groups_in o past) (offered (is_forwarded o past (arrival_of e)) e.frame) e.time message
    → option_to_list message ≡ delivered (way.outcome o past (arrival_of e)) e.room e.time port (number_delivered o past port)
delivers_it o past e port message lawful has =
    let a = arrival_of e in
    delivers_by o past a (way.outcome o past a) (number_delivered o past) e.room port e.verdict message (outcome_is o past a) lawful has

-- ---- events that delivered nothing

delivers_nothing : (o : Settings) (past : List Event) (e : Event) (port : PortNo) → IsLawfulAfter o past e → tells_delivered e.verdict port ≡ false
    → delivered (way.outcome o past (arrival_of e)) e.room e.time port (number_delivered o past port) ≡ []
delivers_nothing o past e port lawful told = sym (delivers_it o past e port None lawful (rw told refl))

pub nothing_later : (o : Settings) (later past : List Event) (port : PortNo) → IsRun o (later ++ past) → All (λ e. tells_delivered e.verdict port ≡ false) later
    → deliveries o (later ++ past) port ≡ deliveries o past port
nothing_later o [] past port run none = refl
nothing_later o (e ∷ later) past port run none =
    let told = λ (e : Event). tells_delivered e.verdict port ≡ false in
    rw (delivers_nothing o (later ++ past) e port run.0 (All-head told e later none), append-nil) (nothing_later o later past port run.2 (All-tail told e later none))

-- what is delivered up to the last event that delivers something is all
pub same_up_to : (o : Settings) (history earlier : List Event) (n : ℕ) (port : PortNo) → IsRun o (reverse history ++ earlier) → All (λ e. tells_delivered e.verdict port ≡ false) (drop n history)
    → deliveries o (reverse history ++ earlier) port ≡ deliveries o (reverse (take n history) ++ earlier) port
same_up_to o history earlier n port run none =
    let told = λ (e : Event). tells_delivered e.verdict port ≡ false in
    let parts = parts_after history earlier n in
    ap (λ events. deliveries o events port) parts
    ∙ nothing_later o (reverse (drop n history)) (reverse (take n history) ++ earlier) port (rw parts at run) (all_reverse told (drop n history) none)
