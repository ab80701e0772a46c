-- What a program may ask of a link's ports, and no rule reads.
use Rattle.std.specs.Prelude.{◌≡◌, ◌<◌, ◌≤◌, ℕ, ◌+◌, Bool, false, List, [], ◌∷◌, length, slice_index_or, Option, None, Some, if◌then◌else◌}
use Rattle.es_base.specs.declared.place.Net.{Net}
use Rattle.es_base.specs.declared.place.Net.TheVariants as nets
use Rattle.es_base.specs.declared.place.PortNo.{PortNo}
use Rattle.es_base.specs.declared.event.Event.{Event}
use Rattle.es_base.specs.declared.verdict.Verdict.{Verdict}
use Rattle.es_base.specs.declared.verdict.Verdict.TheVariants as verdicts
use Rattle.es_base.specs.Limits.{most_ports}
use Rattle.es_base.specs.Settings.{Settings}
use Rattle.link_rules.specs.Deliveries.{is_same_port, number_delivered}
use Rattle.link_core.specs.declared.port_tally.Brought.{Brought}
use Rattle.link_core.specs.declared.port_tally.Brought.TheVariants.{Nothing, OnA, OnB}
use Rattle.link_core.specs.declared.port_tally.Newest.{Newest}
use Rattle.link_core.specs.declared.port_tally.PortCounts.{PortCounts}
use Rattle.link_core.specs.declared.port_tally.PortTally.{PortTally}
use Rattle.link_core.specs.Counted.{port_no, shown}
use Rattle.link_core.specs.Told.{tells_delivered}

-- ---- a verdict

-- whether the event's message was refused by the port's queue
abbrev pub tells_overflow : Verdict → PortNo → Bool
tells_overflow (verdicts.Overflow at) port = is_same_port at port
tells_overflow other port = false

-- whether it was longer than the port takes
abbrev pub tells_too_long : Verdict → PortNo → Bool
tells_too_long (verdicts.TooLong at) port = is_same_port at port
tells_too_long other port = false

-- whether it was joined of fragments, and the port samples
abbrev pub tells_fragmented : Verdict → PortNo → Bool
tells_fragmented (verdicts.FragmentedSample at) port = is_same_port at port
tells_fragmented other port = false

-- the port's newest message after an event with this verdict, whose frame came on this network at this time
abbrev pub newest_after : Verdict → Net → ℕ → PortNo → Option Newest → Option Newest
newest_after verdict net time port before = if tells_delivered verdict port then Some (record { time = time; net = net }) else before

-- ---- a past

-- number of events whose verdicts tell this of the port
-- rule: EMB-45
abbrev pub number_telling : (Verdict → PortNo → Bool) → List Event → PortNo → ℕ
number_telling tells [] port = 0
number_telling tells (e ∷ past) port = if tells e.verdict port then number_telling tells past port + 1 else number_telling tells past port

-- when the frame of the port's newest message came, and on which network
-- rule: EMB-45
abbrev pub newest_brought : List Event → PortNo → Option Newest
newest_brought [] port = None
newest_brought (e ∷ past) port = newest_after e.verdict e.net e.time port (newest_brought past port)

-- what became of the messages that a past brought for a port
-- rule: EMB-45
pub record AreCountsOf (settings : Settings) (past : List Event) (port : PortNo) (counts : PortCounts) : Type 0 where
  pub delivered : counts.delivered ≡ shown (number_delivered settings past port)
  pub overflowed : counts.overflowed ≡ shown (number_telling tells_overflow past port)
  pub too_long : counts.too_long ≡ shown (number_telling tells_too_long past port)
  pub fragmented : counts.fragmented ≡ shown (number_telling tells_fragmented past port)
  pub newest : counts.newest ≡ newest_brought past port

-- so it is at a port of a link with these settings; at no other
abbrev pub TellsCounts : Settings → List Event → PortNo → Option PortCounts → Type 0
TellsCounts settings past port None = length settings.ports ≤ port.0
TellsCounts settings past port (Some counts) = (port.0 < length settings.ports) × AreCountsOf settings past port counts

-- ---- what is kept

abbrev pub brought_on : Net → Brought
brought_on nets.A = OnA
brought_on nets.B = OnB

-- the newest message, by the network that brought it and the time of its frame
abbrev pub newest_kept : Brought → ℕ → Option Newest
newest_kept Nothing time = None
newest_kept OnA time = Some (record { time = time; net = nets.A })
newest_kept OnB time = Some (record { time = time; net = nets.B })

-- this is kept of a past
pub record TellsPorts (tally : PortTally) (past : List Event) : Type 0 where
  pub overflowed : (port : ℕ) → port < most_ports → slice_index_or tally.overflowed port 0 ≡ shown (number_telling tells_overflow past (port_no port))
  pub too_long : (port : ℕ) → port < most_ports → slice_index_or tally.too_long port 0 ≡ shown (number_telling tells_too_long past (port_no port))
  pub fragmented : (port : ℕ) → port < most_ports → slice_index_or tally.fragmented port 0 ≡ shown (number_telling tells_fragmented past (port_no port))
  pub newest : (port : ℕ) → newest_kept (slice_index_or tally.brought port Nothing) (slice_index_or tally.latest port 0) ≡ newest_brought past (port_no port)

-- these are a port's entries
pub record AreCountsIn (tally : PortTally) (port : PortNo) (counts : PortCounts) : Type 0 where
  pub overflowed : counts.overflowed ≡ slice_index_or tally.overflowed port.0 0
  pub too_long : counts.too_long ≡ slice_index_or tally.too_long port.0 0
  pub fragmented : counts.fragmented ≡ slice_index_or tally.fragmented port.0 0
  pub newest : counts.newest ≡ newest_kept (slice_index_or tally.brought port.0 Nothing) (slice_index_or tally.latest port.0 0)
