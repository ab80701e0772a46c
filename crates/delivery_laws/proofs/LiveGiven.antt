-- What a live system gives to the ports of a link.
use Rattle.std.specs.Prelude.{ℕ, List}
use Rattle.es_base.specs.declared.place.Net.{Net}
use Rattle.es_base.specs.Port.{Port}
use Rattle.receiver.specs.declared.ends.LinkEnds.{LinkEnds}
use Rattle.receiver.specs.declared.partition.PartitionEnd.{PartitionEnd}
use Rattle.receiver.specs.Port.{ShowsPort}
use Rattle.network_calls.specs.Counts.{KnownCounts}
use Rattle.delivery_laws.proofs.TaskGiven.{gives_each}
use Rattle.live_system.specs.Calls.{LiveLink}
use Rattle.live_system.specs.Run.{HasEnded, Step}
use Rattle.network_calls.specs.Passes.{System}
use Rattle.delivery_laws.specs.Live.{DeliversEach}

pub delivers_each : (readers : Port → ℕ) (system : System) (steps : List (Net × Step)) (ends : List (LinkEnds PartitionEnd)) (links : List LiveLink) (a b : KnownCounts) → HasEnded readers system steps ends links a b
    → DeliversEach readers system steps ends links
delivers_each readers system steps ends links a b ended vl place named =
    let (settings, link, there, numbered, link_there, run) = ended.each vl place named in
    (settings, link, there, numbered, link_there, run, gives_each ShowsPort link run.ported)
