-- The verdict of a frame, and lawful histories.
use Rattle.std.specs.Prelude.{◌≡◌, ℕ, ◌+◌, Bool, true, false, not, List, [], ◌∷◌, nat_le, nat_lt, if◌then◌else◌}
use Rattle.es_base.specs.declared.place.PortNo.{PortNo}
use Rattle.es_base.specs.declared.port.PortKind.{PortKind}
use Rattle.es_base.specs.declared.port.PortKind.TheVariants.{Sampling, Queuing}
use Rattle.es_base.specs.declared.verdict.Verdict.{Verdict}
use Rattle.es_base.specs.declared.verdict.Verdict.TheVariants as verdicts
use Rattle.es_base.specs.declared.verdict.Decision.{Decision}
use Rattle.es_base.specs.declared.verdict.Decision.TheVariants.{Final, ByQueue}
use Rattle.es_base.specs.declared.event.Arrival.{Arrival}
use Rattle.es_base.specs.declared.event.Event.{Event}
use Rattle.es_base.specs.Limits.{most_samples}
use Rattle.es_base.specs.Past.{arrival_of}
use Rattle.link_rules.specs.Outcome.{Outcome, out_of_sequence, redundant, refused, brings, outcome}
use Rattle.link_rules.specs.Deliveries.{number_delivered}
use Rattle.es_base.specs.Settings.{Settings}

-- the verdict of a message at a sampling port, after this number of others
-- rule: PORT-16, PORT-5
abbrev pub sampled : PortNo → ℕ → Verdict
sampled port before = if nat_lt before most_samples then verdicts.Sampled port (before + 1) else verdicts.Exhausted port

abbrev pub decided_at : PortKind → PortNo → ℕ → Decision
decided_at (Sampling refresh) port before = Final (sampled port before)
decided_at (Queuing depth) port before = ByQueue port

-- rule: INT-4, RM-5
abbrev pub decided : Outcome → (PortNo → ℕ) → Decision
decided out_of_sequence delivered = Final verdicts.OutOfSequence
decided redundant delivered = Final verdicts.Redundant
decided (refused verdict) delivered = Final verdict
decided (brings payload) delivered = decided_at payload.kind payload.port (delivered payload.port)

-- the verdict of a frame that comes after this past, but for the queue's answer
abbrev pub decision_of : Settings → List Event → Arrival → Decision
decision_of settings past a = decided (outcome settings past a) (number_delivered settings past)

-- the verdict, once the queue has said whether it has room
-- rule: PORT-9
abbrev pub settled : Decision → Bool → Verdict
settled (Final verdict) room = verdict
settled (ByQueue port) true = verdicts.Queued port
settled (ByQueue port) false = verdicts.Overflow port

-- its verdict
-- rule: HIST-1
abbrev pub verdict_of : Settings → List Event → Arrival → Bool → Verdict
verdict_of settings past a room = settled (decision_of settings past a) room

-- ---- the queue's answer

-- whether a port of this kind may refuse a message, after this number of others were delivered to it: a
-- queuing port once as many were as its queue holds
-- rule: PORT-10
abbrev pub may_be_full : PortKind → ℕ → Bool
may_be_full (Sampling refresh) before = false
may_be_full (Queuing depth) before = nat_le depth before

abbrev pub may_refuse_with : Outcome → (PortNo → ℕ) → Bool
may_refuse_with out_of_sequence delivered = false
may_refuse_with redundant delivered = false
may_refuse_with (refused verdict) delivered = false
may_refuse_with (brings payload) delivered = may_be_full payload.kind (delivered payload.port)

-- whether the frame brings a message that its queue may refuse
abbrev pub may_refuse : Settings → List Event → Arrival → Bool
may_refuse settings past a = may_refuse_with (outcome settings past a) (number_delivered settings past)

-- what a queue may answer: that it has room, and that it has none only if it may refuse
abbrev pub MayAnswer : Settings → List Event → Arrival → Bool → Type 0
MayAnswer settings past a true = Unit {0}
MayAnswer settings past a false = may_refuse settings past a ≡ true

-- the answer of a queue nobody takes from
-- rule: OUT-8
abbrev pub room_unread : Settings → List Event → Arrival → Bool
room_unread settings past a = not (may_refuse settings past a)

-- a lawful past: each event's verdict is that of its frame after the events before it, with an answer
-- that its queue may give
-- rule: HIST-1
abbrev pub IsRun : Settings → List Event → Type 0
IsRun settings [] = Unit {0}
IsRun settings (e ∷ past) = (e.verdict ≡ verdict_of settings past (arrival_of e) e.room) × MayAnswer settings past (arrival_of e) e.room × IsRun settings past
