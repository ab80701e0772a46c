-- An end system that has ended, and what its passes counted of both networks' calls.
use Rattle.std.specs.Prelude.{◌≡◌, ℕ, List, Some, length}
use Rattle.es_base.specs.declared.place.LinkNo.{LinkNo}
use Rattle.es_base.specs.declared.place.Net.{Net}
use Rattle.es_base.specs.declared.event.Arrival.{Arrival}
use Rattle.es_base.specs.Config.{Configuration, link_of}
use Rattle.es_base.specs.FilterTally.{filtered_count}
use Rattle.es_base.specs.Limits.{filter_causes}
use Rattle.es_base.specs.Tally.{IsKind, count_in}
use Rattle.es_base.specs.Verdict.{verdict_kinds}
use Rattle.network_calls.specs.declared.call.Call.{Call}
use Rattle.network_calls.specs.Calls.{count_calls}
use Rattle.network_calls.specs.Counts.{KnownCounts, count_on, number_on}
use Rattle.network_calls.specs.Passes.{AreSettled, IsCounted, Keeping, System}
use Rattle.network_calls.specs.Threads.{BothPasses}

-- as the system's `settle` hands them out
pub record HasSettled {K L : Type 0} (keeping : Keeping K L) (system : System) (passes : BothPasses K) (settled : List L) (a b : KnownCounts) : Type 0 where
  pub links : AreSettled keeping system.config.links passes.a.links passes.b.links settled
  pub counted_a : IsCounted keeping passes.a a
  pub counted_b : IsCounted keeping passes.b b

-- a network's filtered frames are counted, where these frames came on it
abbrev pub CountsFiltered : Configuration → List Arrival → Net → KnownCounts → Type 0
CountsFiltered config frames net counts = (kind : ℕ) → IsKind filter_causes kind → count_in counts.filtered counts.net kind ≡ filtered_count config frames net kind

-- and its calls on each link, and their verdicts, where these are the calls on the link with a number; `shows` says what
-- a count shows of a number
abbrev pub CountsCalls : (ℕ → ℕ) → Configuration → (LinkNo → List Call) → KnownCounts → Type 0
CountsCalls shows config calls counts =
    (vl : LinkNo) (place : ℕ) → link_of config.links vl ≡ Some place
    → (number_on vl counts.links ≡ shows (length (calls vl)))
    × ((kind : ℕ) → IsKind verdict_kinds kind → count_on vl kind counts.net counts.links ≡ shows (count_calls kind (calls vl)))
