-- What the threads of both networks did with a system, from its opening to its end. It exists in contracts alone. The
-- latest call is first.
use Rattle.std.specs.Prelude.{◌≡◌, ℕ, ◌==◌, Err, List, [], ◌∷◌, map, slice_get, Some, if◌then◌else◌}
use Rattle.es_base.specs.declared.place.LinkNo.{LinkNo}
use Rattle.es_base.specs.declared.place.Net.{Net}
use Rattle.es_base.specs.declared.place.Net.TheVariants.{A, B}
use Rattle.es_base.specs.declared.event.Arrival.{Arrival}
use Rattle.es_base.specs.Addressing.{ComesToPlace, addressed_link, addressee_of}
use Rattle.es_base.specs.Config.{link_of}
use Rattle.es_base.specs.Past.{arrived}
use Rattle.es_base.specs.Port.{Port}
use Rattle.es_base.specs.Settings.{Settings}
use Rattle.es_base.specs.Tally.{IsKind, count_of}
use Rattle.es_base.specs.Verdict.{verdict_kinds}
use Rattle.link_core.specs.Counted.{shown}
use Rattle.receiver.specs.declared.ends.LinkEnds.{LinkEnds}
use Rattle.receiver.specs.declared.partition.PartitionEnd.{PartitionEnd}
use Rattle.receiver.specs.declared.receiver.Reply.{Reply}
use Rattle.receiver.specs.declared.receiver.Reply.TheVariants as replies
use Rattle.receiver.specs.Ends.{ArePortsOpened}
use Rattle.receiver.specs.Link.{IsPorted}
use Rattle.receiver.specs.Outlet.{reads_by}
use Rattle.receiver.specs.Port.{ReadsPort, ShowsPort}
use Rattle.network_calls.specs.declared.call.Call.{Call}
use Rattle.network_calls.specs.Calls.{call, calls_from, count_calls}
use Rattle.network_calls.specs.Counts.{KnownCounts}
use Rattle.network_calls.specs.Places.{StandInTheRun}
use Rattle.network_calls.specs.Ended.{CountsCalls, CountsFiltered}
use Rattle.network_calls.specs.Passes.{IsNewPassOf, KnownNet, System}
use Rattle.network_calls.specs.Threads.{BothPasses, HoldsOfEach, RanAloneBy, RanBy, all_in, latest_first_in}
use Rattle.live_system.specs.Calls.{LiveLink, events_of, new_outlet}
use Rattle.live_system.specs.Pass.{KnownLink}
use Rattle.live_system.specs.System.{AreOfNewLinks, IsPassOf, Replies, keeping_no_frame}

-- ---- calls

pub data Step : Type 0 where
  -- a frame of these octets came at this time, and this was replied
  received : ℕ → List ℕ → Reply → Step
  -- an end of a port met it, or its link or its queue was asked: which changes no pass
  met : Step

-- one call of a network's pass, as its contract has it
abbrev pub Does : System → Step → KnownNet KnownLink → KnownNet KnownLink → Type 0
Does system (received time octets reply) old new = Replies system.config old time octets reply new
Does system met old new = new ≡ old

-- ---- the calls of both

-- these calls of both networks, one after another, made the one passes of the other
abbrev pub Ran : System → BothPasses KnownLink → List (Net × Step) → BothPasses KnownLink → Type 0
Ran system first steps last = RanBy (IsPassOf system) (Does system) first steps last

-- these calls of one thread, one after another, made the one pass of the other, whatever the other thread did
-- rule: EMB-32
abbrev pub RanAlone : System → KnownNet KnownLink → List Step → KnownNet KnownLink → Type 0
RanAlone system first steps last = RanAloneBy (IsPassOf system) (Does system) first steps last

-- as `LiveSystem::open` hands them out; each sampling port has as many readers as this says
pub record AreOpened (readers : Port → ℕ) (system : System) (passes : BothPasses KnownLink) (ends : List (LinkEnds PartitionEnd)) : Type 0 where
  pub own_a : IsPassOf system passes.a
  pub own_b : IsPassOf system passes.b
  pub new_a : IsNewPassOf keeping_no_frame A passes.a
  pub new_b : IsNewPassOf keeping_no_frame B passes.b
  pub links : AreOfNewLinks readers system.config passes.a passes.b ends

-- ---- their replies

abbrev pub call_in : LinkNo → Step → List Call
call_in vl (received time octets (replies.Filtered cause)) = []
call_in vl (received time octets (replies.Link at number place verdict)) = if number.0 == vl.0 then call place time octets verdict ∷ [] else []
call_in vl met = []

-- the calls of this network's frames on the link with this number, by their replies, the first frame first
abbrev pub calls_in : Net → LinkNo → List (Net × Step) → List Call
calls_in net vl steps = all_in (call_in vl) net steps

abbrev pub frame_in : Net → Step → List Arrival
frame_in net (received time octets reply) = arrived net time octets ∷ []
frame_in net met = []

-- the frames that came on this network, the latest first
abbrev pub frames_in : Net → List (Net × Step) → List Arrival
frames_in net steps = latest_first_in (frame_in net) net steps

-- A reply is of the link to which its frame comes, or has the cause for which it comes to none.
-- rule: CONC-5, EMB-31
abbrev pub IsAnswered : System → Step → Type 0
IsAnswered system (received time octets (replies.Filtered cause)) = addressed_link system.config octets ≡ Err cause
IsAnswered system (received time octets (replies.Link at vl place verdict)) = ComesToPlace system.config octets at × (vl ≡ addressee_of octets)
IsAnswered system met = Unit {0}

-- a call as a reply shows it: its place stops at the greatest number of 64 bits
abbrev pub shown_call : Call → Call
shown_call c = call (shown c.place) c.time c.frame c.verdict

-- ---- one record

-- A link with these settings after these calls. Its past is one run, and each of its ports was given what that
-- delivers. Each network's replies are its events in this run, each at its place. Each kind of verdict is counted. The
-- ends that were handed out at the opening are those of its ports.
-- rule: CONC-9
pub record EndsInOneRun (readers : Port → ℕ) (steps : List (Net × Step)) (settings : Settings) (ends : List (LinkEnds PartitionEnd)) (place : ℕ) (link : LiveLink) : Type 0 where
  pub with_settings : link.core.settings ≡ settings
  pub ported : IsPorted ShowsPort link
  pub replied : (net : Net) → calls_in net settings.vl steps ≡ map shown_call (calls_from 0 net (events_of link))
  pub stand : StandInTheRun (λ net. calls_from 0 net (events_of link)) settings (events_of link)
  pub counted : (net : Net) (kind : ℕ) → IsKind verdict_kinds kind → count_of link.core.past net kind ≡ count_calls kind (calls_in net settings.vl steps)
  pub its_ends : LinkEnds PartitionEnd
  pub there : slice_get ends place ≡ Some its_ends
  pub of_its_ports : ArePortsOpened ShowsPort (reads_by ReadsPort readers) 0 settings.ports (map new_outlet link.outlets) its_ends.ports.items

-- each link of the configuration ends in one run, and each reply is that of its frame
-- rule: CONC-9
pub record HasEnded (readers : Port → ℕ) (system : System) (steps : List (Net × Step)) (ends : List (LinkEnds PartitionEnd)) (links : List LiveLink) (a b : KnownCounts) : Type 0 where
  pub each : (vl : LinkNo) (place : ℕ) → link_of system.config.links vl ≡ Some place
      → (settings : Settings) × (link : LiveLink) × (slice_get system.config.links place ≡ Some settings) × (settings.vl ≡ vl) × (slice_get links place ≡ Some link)
      × EndsInOneRun readers steps settings ends place link
  pub answered : HoldsOfEach (IsAnswered system) steps
  pub calls_a : CountsCalls shown system.config (λ vl. calls_in A vl steps) a
  pub calls_b : CountsCalls shown system.config (λ vl. calls_in B vl steps) b
  pub filtered_a : CountsFiltered system.config (frames_in A steps) A a
  pub filtered_b : CountsFiltered system.config (frames_in B steps) B b
