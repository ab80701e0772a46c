-- What a live system gives to the ports of a link, by what its sender sends and what the networks do.
use Rattle.std.specs.Prelude.{◌≡◌, ℕ, List, slice_get, Some}
use Rattle.es_base.specs.declared.place.LinkNo.{LinkNo}
use Rattle.es_base.specs.declared.place.Net.{Net}
use Rattle.es_base.specs.Config.{link_of}
use Rattle.es_base.specs.Port.{Port}
use Rattle.es_base.specs.Settings.{Settings}
use Rattle.receiver.specs.declared.ends.LinkEnds.{LinkEnds}
use Rattle.receiver.specs.declared.partition.PartitionEnd.{PartitionEnd}
use Rattle.receiver.specs.Port.{ShowsPort}
use Rattle.delivery_laws.specs.Task.{GivesEach}
use Rattle.live_system.specs.Calls.{LiveLink}
use Rattle.live_system.specs.Run.{EndsInOneRun, Step}
use Rattle.network_calls.specs.Passes.{System}

-- each link of the configuration ends in one run of all its events, and gave each message of these to its port: a
-- sampling port published it, a queuing port put it into its queue
-- rule: DELIV-14
abbrev pub DeliversEach : (Port → ℕ) → System → List (Net × Step) → List (LinkEnds PartitionEnd) → List LiveLink → Type 0
DeliversEach readers system steps ends links =
    (vl : LinkNo) (place : ℕ) → link_of system.config.links vl ≡ Some place
    → (settings : Settings) × (link : LiveLink) × (slice_get system.config.links place ≡ Some settings) × (settings.vl ≡ vl) × (slice_get links place ≡ Some link)
    × EndsInOneRun readers steps settings ends place link
    × GivesEach ShowsPort link
