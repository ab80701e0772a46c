-- The lines of a link stand in what is written.
use Rattle.std.proofs.Common.{◌≡◌, ◌∙◌, ap, sym, subst, refl, arith, ℕ, ◌+◌, zero, suc, List, [], ◌∷◌, ◌++◌, length, Option, Some, append_assoc}
use Rattle.std.specs.Prelude.{reverse, slice_get}
use Rattle.std.proofs.lemmas.Option.{same_Some}
use Rattle.std.proofs.Math.Path.{fun_ext}
use Rattle.es_base.specs.declared.event.Arrival.{Arrival}
use Rattle.es_base.specs.declared.event.Event.{Event}
use Rattle.es_base.specs.declared.event.Message.{Message}
use Rattle.es_base.specs.declared.place.PortNo.{PortNo}
use Rattle.es_base.specs.declared.port.PortKind.{PortKind}
use Rattle.es_base.specs.declared.port.PortKind.TheVariants.{Queuing}
use Rattle.es_base.specs.Config.{Configuration}
use Rattle.link_rules.specs.Deliveries.{deliveries}
use Rattle.es_base.specs.FilterTally.{filtered_count}
use Rattle.link_rules.specs.Outcome.{Payload}
use Rattle.es_base.specs.Port.{Port}
use Rattle.es_base.specs.Settings.{Settings}
use Rattle.hex_trace.specs.Frames.{TimedFrame}
use Rattle.output_lines.specs.Line.{message_text, queue_text}
use Rattle.output_lines.specs.Report.{all_count_lines, all_link_lines, filtered_lines, line, lines_by_kind, link_lines, message_lines, port_lines, ports_lines}
use Rattle.trace_player.specs.Histories.{past_after}
use Rattle.trace_player.specs.Merge.{merged}
use Rattle.trace_player.specs.Output.{lines_of, output_of, report_time_of}
use Rattle.datagram_delivery.specs.Arriving.{Arrives, past_before}
use Rattle.datagram_delivery.specs.Interleaved.{BringDatagrams, Carried}
use Rattle.datagram_delivery.proofs.Arriving.{arriving_is_delivered, brought_by}
use Rattle.datagram_delivery.proofs.Offered.{deliveries_by_offers}
use Rattle.delivery_laws.specs.Reported.{AreWritten, IsReported, StandsIn, lines_offered, lines_sent}

pub lines_are : (constant : List ℕ) (link : Settings) (frames : List Arrival) (carried : List Carried) (at : ℕ) → BringDatagrams link (past_after constant link frames) carried
    → link_lines at link (past_after constant link frames) ≡ lines_sent link carried at
lines_are constant link frames carried at bring =
    ap (λ delivered. ports_lines at delivered 0 link.ports) (fun_ext (λ port. brought_by link (past_after constant link frames) carried port bring))

-- whatever came
pub lines_are_offered : (constant : List ℕ) (link : Settings) (frames : List Arrival) (at : ℕ) → link_lines at link (past_after constant link frames) ≡ lines_offered link (past_after constant link frames) at
lines_are_offered constant link frames at = ap (λ delivered. ports_lines at delivered 0 link.ports) (fun_ext (λ port. deliveries_by_offers link (past_after constant link frames) port))

-- ---- texts in texts

stands_after : (piece front text : List ℕ) → StandsIn piece text → StandsIn piece (front ++ text)
stands_after piece front text (before, after, is) =
    (front ++ before, after, ap (λ (rest : List ℕ). front ++ rest) is ∙ sym (append_assoc front (before ++ piece) after) ∙ ap (λ (all : List ℕ). all ++ after) (sym (append_assoc front before piece)))

stands_before : (piece text back : List ℕ) → StandsIn piece text → StandsIn piece (text ++ back)
stands_before piece text back (before, after, is) = (before, after ++ back, ap (λ (all : List ℕ). all ++ back) is ∙ append_assoc (before ++ piece) after back)

-- the lines of a link stand in those of all links
link_stands : (at : ℕ) (past_of : Settings → List Event) (links : List Settings) (place : ℕ) (link : Settings) → slice_get links place ≡ Some link
    → StandsIn (link_lines at link (past_of link)) (all_link_lines at past_of links)
link_stands at past_of [] place link there = cc
link_stands at past_of (first ∷ links) zero link there =
    ([], all_link_lines at past_of links, ap (λ (one : Settings). link_lines at one (past_of one) ++ all_link_lines at past_of links) (same_Some first link there))
link_stands at past_of (first ∷ links) (suc place) link there = stands_after (link_lines at link (past_of link)) (link_lines at first (past_of first)) (all_link_lines at past_of links) (link_stands at past_of links place link there)

-- a piece stands in a text, and the text in another
stands_within : (piece text whole : List ℕ) → StandsIn piece text → StandsIn text whole → StandsIn piece whole
stands_within piece text whole inner (front, back, is) =
    subst (λ (all : List ℕ). StandsIn piece all) (sym is) (stands_before piece (front ++ text) back (stands_after piece front text inner))

-- the lines of a port stand in those of its link, from a place on
port_stands : (at : ℕ) (delivered : PortNo → List Message) (place : ℕ) (ports : List Port) (further number : ℕ) (port : Port) → number ≡ place + further → slice_get ports further ≡ Some port
    → StandsIn (port_lines at port (delivered (record { 0 = number }))) (ports_lines at delivered place ports)
port_stands at delivered place [] further number port is there = cc
port_stands at delivered place (first ∷ ports) zero number port is there =
    let rest : List ℕ = ports_lines at delivered (place + 1) ports in let same : place ≡ number = omega (arith, is) in
    ([], rest, ap (λ (one : Port). port_lines at one (delivered (record { 0 = place })) ++ rest) (same_Some first port there) ∙ ap (λ (n : ℕ). port_lines at port (delivered (record { 0 = n })) ++ rest) same)
port_stands at delivered place (first ∷ ports) (suc further) number port is there =
    stands_after (port_lines at port (delivered (record { 0 = number }))) (port_lines at first (delivered (record { 0 = place }))) (ports_lines at delivered (place + 1) ports)
    (port_stands at delivered (place + 1) ports further number port (omega (arith, is)) there)

-- the line of a message stands in those of a queue
message_stands : (name : List ℕ) (earlier : List Message) (message : Message) (later : List Message)
    → StandsIn (line (message_text name message.time message.octets)) (message_lines name (earlier ++ message ∷ later))
message_stands name [] message later = ([], message_lines name later, refl)
message_stands name (one ∷ earlier) message later =
    stands_after (line (message_text name message.time message.octets)) (line (message_text name one.time one.octets)) (message_lines name (earlier ++ message ∷ later)) (message_stands name earlier message later)

queue_stands : (at : ℕ) (port : Port) (depth : ℕ) (earlier : List Message) (message : Message) (later : List Message) → port.kind ≡ Queuing depth
    → StandsIn (line (message_text port.name message.time message.octets)) (port_lines at port (earlier ++ message ∷ later))
queue_stands at port depth earlier message later is =
    let piece : List ℕ = line (message_text port.name message.time message.octets) in let all : List Message = earlier ++ message ∷ later in
    subst (λ (kind : PortKind). StandsIn piece (lines_by_kind at port.name kind all)) (sym is)
    (stands_after piece (line (queue_text port.name (length all))) (message_lines port.name all) (message_stands port.name earlier message later))

-- ---- in what is written for two traces

link_is_written : (c : Configuration) (a b : List TimedFrame) (asked : Option ℕ) (place : ℕ) (link : Settings) → slice_get c.links place ≡ Some link
    → StandsIn (link_lines (report_time_of asked (reverse (merged a b))) link (past_after c.constant link (reverse (merged a b)))) (output_of c a b asked)
link_is_written c a b asked place link there =
    let frames : List Arrival = reverse (merged a b) in let at : ℕ = report_time_of asked frames in
    let past_of : Settings → List Event = λ link. past_after c.constant link frames in let piece : List ℕ = link_lines at link (past_of link) in
    let lines : List ℕ = all_link_lines at past_of c.links in let counts : List ℕ = all_count_lines past_of c.links in
    let filtered : List ℕ = filtered_lines (filtered_count c frames) in
    let in_report : StandsIn piece (lines ++ counts ++ filtered) = stands_before piece (lines ++ counts) filtered (stands_before piece lines counts (link_stands at past_of c.links place link there)) in
    stands_after piece (lines_of c [] (merged a b)) (lines ++ counts ++ filtered) in_report

pub are_written : (c : Configuration) (a b : List TimedFrame) (asked : Option ℕ) (place : ℕ) (link : Settings) (carried : List Carried) → slice_get c.links place ≡ Some link
    → BringDatagrams link (past_after c.constant link (reverse (merged a b))) carried → AreWritten c a b asked link carried
are_written c a b asked place link carried there bring =
    subst (λ (piece : List ℕ). StandsIn piece (output_of c a b asked)) (lines_are c.constant link (reverse (merged a b)) carried (report_time_of asked (reverse (merged a b))) bring)
    (link_is_written c a b asked place link there)

pub is_reported : (c : Configuration) (a b : List TimedFrame) (asked : Option ℕ) (place : ℕ) (link : Settings) (port : Port) (payload : Payload) (time : ℕ) → slice_get c.links place ≡ Some link
    → slice_get link.ports payload.port.0 ≡ Some port → (one : Arrives link (past_after c.constant link (reverse (merged a b))) payload time) → IsReported c a b asked link port payload time one
is_reported c a b asked place link port payload time there at_port one =
    let past : List Event = past_after c.constant link (reverse (merged a b)) in let at : ℕ = report_time_of asked (reverse (merged a b)) in
    let message : Message = record { time = time; octets = payload.octets } in let earlier : List Message = deliveries link (past_before one) payload.port in
    let (later, delivered) = arriving_is_delivered link past payload time one in let lines : List ℕ = port_lines at port (earlier ++ message ∷ later) in
    let in_link : StandsIn lines (link_lines at link past) =
    subst (λ (messages : List Message). StandsIn (port_lines at port messages) (link_lines at link past)) delivered
    (port_stands at (λ port. deliveries link past port) 0 link.ports payload.port.0 payload.port.0 port (omega arith) at_port) in
    let all : StandsIn lines (output_of c a b asked) = stands_within lines (link_lines at link past) (output_of c a b asked) in_link (link_is_written c a b asked place link there) in
    record {
      later = later;
      lines = all;
      queued = λ depth is. stands_within (line (message_text port.name time payload.octets)) lines (output_of c a b asked) (queue_stands at port depth earlier message later is) all;
    }
