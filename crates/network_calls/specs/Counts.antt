-- What a pass counted, and what that says of a link by its number.
use Rattle.std.specs.Prelude.{◌≡◌, ℕ, ◌==◌, Bool, List, Option, None, Some, length}
use Rattle.std.specs.List.{find}
use Rattle.es_base.specs.declared.place.LinkNo.{LinkNo}
use Rattle.es_base.specs.declared.place.Net.{Net}
use Rattle.es_base.specs.Verdict.{verdict_kinds}
use Rattle.es_base.specs.Tally.{Counts, IsKind, count_in}
use Rattle.network_calls.specs.declared.call.Call.{Call}
use Rattle.network_calls.specs.declared.counts.LinkCounts.{LinkCounts}
use Rattle.network_calls.specs.Calls.{count_calls}

-- its network, the counts on each link, and those of filtered frames
pub record KnownCounts : Type 0 where
  pub net : Net
  pub links : List LinkCounts
  pub filtered : Counts

-- The counts are those of the calls. `shows` says what a count shows of a number.
-- rule: EMB-33, EMB-38
pub record AreCounts (shows : ℕ → ℕ) (net : Net) (calls : List Call) (counts : LinkCounts) : Type 0 where
  pub all : counts.number ≡ shows (length calls)
  pub kinds : (kind : ℕ) → IsKind verdict_kinds kind → count_in counts.tally net kind ≡ shows (count_calls kind calls)

-- ---- by a link's number

abbrev pub has_number : LinkNo → LinkCounts → Bool
has_number vl counts = counts.vl.0 == vl.0

abbrev pub counts_of_link : LinkNo → List LinkCounts → Option LinkCounts
counts_of_link vl links = find (has_number vl) links

abbrev pub number_of : Option LinkCounts → ℕ
number_of None = 0
number_of (Some counts) = counts.number

abbrev pub count_of_kind : ℕ → Net → Option LinkCounts → ℕ
count_of_kind kind net None = 0
count_of_kind kind net (Some counts) = count_in counts.tally net kind

abbrev pub number_on : LinkNo → List LinkCounts → ℕ
number_on vl links = number_of (counts_of_link vl links)

abbrev pub count_on : LinkNo → ℕ → Net → List LinkCounts → ℕ
count_on vl kind net links = count_of_kind kind net (counts_of_link vl links)
