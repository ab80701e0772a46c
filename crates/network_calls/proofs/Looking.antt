-- What a pass counted, looked up by a link's number, is what the pass says of that link.
use Rattle.std.proofs.Common.{◌≡◌, ℕ, Bool, true, false, cond, List, [], ◌∷◌, Option, Some, length, sym}
use Rattle.es_base.specs.declared.place.LinkNo.{LinkNo}
use Rattle.es_base.specs.declared.place.Net.{Net}
use Rattle.es_base.specs.Verdict.{verdict_kinds}
use Rattle.es_base.specs.Tally.{IsKind}
use Rattle.network_calls.specs.declared.counts.LinkCounts.{LinkCounts}
use Rattle.network_calls.specs.Calls.{count_calls}
use Rattle.network_calls.specs.Counts.{AreCounts, KnownCounts, count_of_kind, counts_of_link, has_number, number_of}
use Rattle.network_calls.specs.Passes.{AreCounted, IsCounted, Keeping, KnownNet, calls_of, pass_with}

module _ {K L : Type 0} (keeping : Keeping K L) (nothing : keeping.shows 0 ≡ 0) where
  -- what the two look-ups find
  record Same (net : Net) (pass : Option K) (counts : Option LinkCounts) : Type 0 where
    pub number : number_of counts ≡ keeping.shows (length (calls_of keeping pass))
    pub kinds : (kind : ℕ) → IsKind verdict_kinds kind → count_of_kind kind net counts ≡ keeping.shows (count_calls kind (calls_of keeping pass))

  of_link : (net : Net) (pass : K) (counts : LinkCounts) → AreCounts keeping.shows net (keeping.on pass).calls counts → Same net (Some pass) (Some counts)
  of_link net pass counts are = record {
    number = are.all;
    kinds = are.kinds;
  }

  either : (net : Net) (found : Bool) {pass later : Option K} {counts more : Option LinkCounts} → Same net pass counts → Same net later more → Same net (cond found pass later) (cond found counts more)
  either net true here later = here
  either net false here later = later

  same : (net : Net) (vl : LinkNo) (links : List K) (counts : List LinkCounts) → AreCounted keeping net links counts → Same net (pass_with keeping vl links) (counts_of_link vl counts)
  same net vl [] [] are = record {
    number = sym nothing;
    kinds = λ kind is. sym nothing;
  }
  same net vl (pass ∷ links) (first ∷ counts) are =
      rw are.0 (either net (has_number vl (keeping.on pass).counts) (of_link net pass (keeping.on pass).counts (rw are.0 at are.1)) (same net vl links counts are.2))
  same net vl (pass ∷ links) [] are = absurd are
  same net vl [] (first ∷ counts) are = absurd are

  pub is_counted : (pass : KnownNet K) (counted : KnownCounts) → counted.net ≡ pass.net → counted.filtered ≡ pass.filtered → AreCounted keeping counted.net pass.links counted.links → IsCounted keeping pass counted
  is_counted pass counted same_net same_filtered are = record {
    net = same_net;
    filtered = same_filtered;
    calls = λ vl. (same counted.net vl pass.links counted.links are).number;
    kinds = λ vl kind is. (same counted.net vl pass.links counted.links are).kinds kind is;
  }
