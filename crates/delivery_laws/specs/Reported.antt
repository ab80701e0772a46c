-- What the player writes of the messages of a link.
use Rattle.std.specs.Prelude.{◌≡◌, ℕ, List, ◌∷◌, ◌++◌, Option, reverse}
use Rattle.es_base.specs.declared.event.Event.{Event}
use Rattle.es_base.specs.declared.event.Message.{Message}
use Rattle.es_base.specs.declared.port.PortKind.TheVariants.{Queuing}
use Rattle.es_base.specs.Config.{Configuration}
use Rattle.link_rules.specs.Deliveries.{deliveries}
use Rattle.link_rules.specs.Outcome.{Payload}
use Rattle.es_base.specs.Port.{Port}
use Rattle.es_base.specs.Settings.{Settings}
use Rattle.hex_trace.specs.Frames.{TimedFrame}
use Rattle.output_lines.specs.Line.{message_text}
use Rattle.output_lines.specs.Report.{line, port_lines, ports_lines}
use Rattle.trace_player.specs.Histories.{past_after}
use Rattle.trace_player.specs.Merge.{merged}
use Rattle.trace_player.specs.Output.{output_of, report_time_of}
use Rattle.datagram_delivery.specs.Arriving.{Arrives, past_before}
use Rattle.datagram_delivery.specs.Datagrams.{messages_by}
use Rattle.datagram_delivery.specs.Offers.{offered_in}
use Rattle.datagram_delivery.specs.Interleaved.{Carried, messages_ended}

-- a piece of text stands in a text
abbrev pub StandsIn : List ℕ → List ℕ → Type 0
StandsIn piece text = (before : List ℕ) × (after : List ℕ) × (text ≡ before ++ piece ++ after)

-- the lines on a link's ports if they got the messages of these datagrams, each once, in the order of sending, at the
-- time of the report
abbrev pub lines_sent : Settings → List Carried → ℕ → List ℕ
lines_sent link carried at = ports_lines at (λ port. messages_ended port carried) 0 link.ports

-- the lines on a link's ports if the packets of the frames that were forwarded were offered once, one by one
abbrev pub lines_offered : Settings → List Event → ℕ → List ℕ
lines_offered link past at = ports_lines at (λ port. messages_by link (offered_in link past) port) 0 link.ports

-- they stand in what is written for two traces
-- rule: DELIV-14
abbrev pub AreWritten : Configuration → List TimedFrame → List TimedFrame → Option ℕ → Settings → List Carried → Type 0
AreWritten c a b asked link carried = StandsIn (lines_sent link carried (report_time_of asked (reverse (merged a b)))) (output_of c a b asked)

-- A message that arrives, of this time, stands in what is written for two traces, in the lines of its port: they are those
-- of all that was delivered to the port, with the message right after what was delivered before it arrived. A queuing
-- port's have each message, a sampling port's the newest.
-- rule: DELIV-14
pub record IsReported (c : Configuration) (a b : List TimedFrame) (asked : Option ℕ) (link : Settings) (port : Port) (payload : Payload) (time : ℕ) (one : Arrives link (past_after c.constant link (reverse (merged a b))) payload time) : Type 0 where
  pub later : List Message
  pub lines : StandsIn (port_lines (report_time_of asked (reverse (merged a b))) port (deliveries link (past_before one) payload.port ++ record { time = time; octets = payload.octets } ∷ later)) (output_of c a b asked)
  pub queued : (depth : ℕ) → port.kind ≡ Queuing depth → StandsIn (line (message_text port.name time payload.octets)) (output_of c a b asked)
