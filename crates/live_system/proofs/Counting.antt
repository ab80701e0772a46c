-- The counts of a pass, which stop at the greatest number of 64 bits.
use Rattle.std.proofs.Common.{◌≡◌, sym, true, List, [], ◌∷◌, ◌++◌}
use Rattle.es_base.specs.declared.place.Net.{Net}
use Rattle.es_base.specs.Tally.{AddsOne, one_more}
use Rattle.es_base.specs.Verdict.{kind_of, verdict_kinds}
use Rattle.link_core.specs.Counted.{shown}
use Rattle.link_core.proofs.Numbers.{shown_more}
use Rattle.network_calls.specs.declared.call.Call.{Call}
use Rattle.network_calls.specs.declared.counts.LinkCounts.{LinkCounts}
use Rattle.network_calls.specs.Counts.{AreCounts}
use Rattle.network_calls.proofs.Counting.{counts_one_more}

-- one call more
pub counts_more : (net : Net) (calls : List Call) (c : Call) (old new : LinkCounts) → AreCounts shown net calls old → new.number ≡ one_more old.number
    → AddsOne verdict_kinds old.tally new.tally net (kind_of c.verdict) → AreCounts shown net (calls ++ c ∷ []) new
counts_more net calls c old new are one adds = counts_one_more shown net calls c old new (λ n low. sym (shown_more true n)) are one adds
