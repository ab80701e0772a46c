-- What a past lost of a port's messages: each message that was delivered is told with the number of those that overflowed
-- right before it.
use Rattle.std.specs.Prelude.{ℕ, ◌+◌, Bool, false, List, [], ◌∷◌, ◌++◌, map, if◌then◌else◌}
use Rattle.es_base.specs.declared.event.Event.{Event}
use Rattle.es_base.specs.declared.event.Message.{Message}
use Rattle.es_base.specs.declared.place.PortNo.{PortNo}
use Rattle.es_base.specs.declared.verdict.Verdict.{Verdict}
use Rattle.es_base.specs.declared.verdict.Verdict.TheVariants as verdicts
use Rattle.es_base.specs.Past.{arrival_of}
use Rattle.es_base.specs.Settings.{Settings}
use Rattle.link_core.specs.Link.{delivered_after}
use Rattle.link_rules.specs.Deliveries.{is_same_port}

-- whether it says that a message for this port was lost
-- rule: PORT-9
abbrev pub is_overflow : Verdict → PortNo → Bool
is_overflow (verdicts.Overflow at) port = is_same_port at port
is_overflow other port = false

-- the messages, one at most, that an event after this past delivered to a port
abbrev pub delivered_by : Settings → List Event → Event → PortNo → List Message
delivered_by settings past e port = delivered_after settings past (arrival_of e) e.room port

-- how many were lost since the latest delivery, after these deliveries of one event
abbrev pub since_these : List Message → ℕ → ℕ
since_these [] lost = lost
since_these (message ∷ messages) lost = 0

-- number of messages for a port that overflowed since the latest delivery to it
-- rule: PORT-19
abbrev pub lost_since : Settings → List Event → PortNo → ℕ
lost_since settings [] port = 0
lost_since settings (e ∷ past) port =
    if is_overflow e.verdict port then lost_since settings past port + 1
    else since_these (delivered_by settings past e port) (lost_since settings past port)

-- for each delivery to a port, in order, the number of messages for it that overflowed after the delivery before
-- rule: PORT-19
abbrev pub losses : Settings → List Event → PortNo → List ℕ
losses settings [] port = []
losses settings (e ∷ past) port =
    losses settings past port ++ map (λ (message : Message). lost_since settings past port) (delivered_by settings past e port)
