-- Filtered frames, after a frame that isn't filtered.
use Rattle.std.proofs.Common.{◌≡◌, Bool, true, false, ◌&&◌, List, ◌∷◌, Ok, refl}
use Rattle.es_base.specs.declared.event.Arrival.{Arrival}
use Rattle.es_base.specs.Addressing.{addressed_link}
use Rattle.es_base.specs.Config.{Configuration}
use Rattle.es_base.specs.FilterTally.{HasFiltered}
use Rattle.es_base.specs.Networks.{is_same_net}
use Rattle.es_base.specs.Settings.{Settings}
use Rattle.es_base.specs.Tally.{Counts}

never : (b : Bool) → (b && false) ≡ false
never true = refl
never false = refl

-- a frame that comes to a link isn't filtered
pub not_filtered : (counts : Counts) (c : Configuration) (earlier : List Arrival) (a : Arrival) (link : Settings) → HasFiltered counts c earlier → addressed_link c a.frame ≡ Ok link → HasFiltered counts c (a ∷ earlier)
not_filtered counts c earlier a link has comes = λ net kind is. rw (comes, never (is_same_net a.net net)) (has net kind is)
