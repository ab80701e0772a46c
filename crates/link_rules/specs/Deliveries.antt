-- The messages that a link's events delivered to its ports (ARINC 664 Part 7, port services).
use Rattle.std.specs.Prelude.{ℕ, ◌-◌, ◌==◌, Bool, ◌&&◌, List, [], ◌∷◌, ◌++◌, length, slice_get, nat_lt, Option, if◌then◌else◌}
use Rattle.std.specs.Option.{option_map}
use Rattle.es_base.specs.declared.place.PortNo.{PortNo}
use Rattle.es_base.specs.declared.port.PortKind.{PortKind}
use Rattle.es_base.specs.declared.port.PortKind.TheVariants.{Sampling, Queuing}
use Rattle.es_base.specs.declared.event.Event.{Event}
use Rattle.es_base.specs.declared.event.Message.{Message}
use Rattle.es_base.specs.declared.event.Sample.{Sample}
use Rattle.es_base.specs.Limits.{most_samples}
use Rattle.es_base.specs.Past.{arrival_of}
use Rattle.link_rules.specs.Outcome.{Outcome, out_of_sequence, redundant, refused, brings, outcome}
use Rattle.es_base.specs.Settings.{Settings}

abbrev pub is_same_port : PortNo → PortNo → Bool
is_same_port a b = a.0 == b.0

-- whether a port of this kind takes one more message, after this number of others: a sampling port as
-- long as it has message numbers (own), a queuing port if its queue had room
-- rule: PORT-5, PORT-9
abbrev pub takes_one_more : PortKind → Bool → ℕ → Bool
takes_one_more (Sampling refresh) room before = nat_lt before most_samples
takes_one_more (Queuing depth) room before = room

-- what a frame with this outcome, which came at this time, delivers to a port, after this number of
-- messages
-- rule: PORT-6
abbrev pub delivered : Outcome → Bool → ℕ → PortNo → ℕ → List Message
delivered (brings payload) room time port before =
    if is_same_port payload.port port && takes_one_more payload.kind room before
    then record { time = time; octets = payload.octets } ∷ []
    else []
delivered out_of_sequence room time port before = []
delivered redundant room time port before = []
delivered (refused verdict) room time port before = []

-- the messages that a past delivered to a port, in order
-- rule: PORT-4
abbrev pub deliveries : Settings → List Event → PortNo → List Message
deliveries settings [] port = []
deliveries settings (e ∷ past) port =
    deliveries settings past port ++ delivered (outcome settings past (arrival_of e)) e.room e.time port (length (deliveries settings past port))

-- number of messages delivered to a port
abbrev pub number_delivered : Settings → List Event → PortNo → ℕ
number_delivered settings past port = length (deliveries settings past port)

-- the newest of a port's messages, and its message number
-- rule: PORT-4
abbrev pub newest_of : List Message → Option (ℕ × Message)
newest_of messages = option_map (λ message. (length messages, message)) (slice_get messages (length messages - 1))

-- a message as it was read, and its message number
abbrev pub read_as : Sample → ℕ × Message
read_as sample = (sample.number, record { time = sample.time; octets = sample.octets.now })
