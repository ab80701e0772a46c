-- What is kept of a link's past for each network alone.
use Rattle.std.specs.Prelude.{◌≡◌, ℕ, List, Option}
use Rattle.es_base.specs.declared.place.Net.{Net}
use Rattle.es_base.specs.declared.place.Net.TheVariants as nets
use Rattle.es_base.specs.declared.event.Event.{Event}
use Rattle.es_base.specs.Tally.{IsKind, count_in, count_of}
use Rattle.es_base.specs.Verdict.{verdict_kinds}
use Rattle.link_rules.specs.Integrity.{sequence_numbers_on}
use Rattle.integrity_check.specs.Kept as sequence
use Rattle.link_core.specs.declared.nets.NetStates.{NetStates}
use Rattle.link_core.specs.Counted.{shown}
use Rattle.link_core.specs.Past.{latest_on}
use Rattle.es_base.specs.Settings.{Settings}

abbrev pub latest_in : NetStates → Net → Option ℕ
latest_in kept nets.A = kept.a.latest
latest_in kept nets.B = kept.b.latest

-- each network's sequence is that of the numbers on it, its latest time is that of its latest frame, and its events are
-- counted
-- rule: INT-3, COUNT-1, EMB-6
pub record HoldNets (kept : NetStates) (o : Settings) (past : List Event) : Type 0 where
  pub a : sequence.StandsFor kept.a.sequence o.window (sequence_numbers_on past nets.A)
  pub b : sequence.StandsFor kept.b.sequence o.window (sequence_numbers_on past nets.B)
  pub times : (net : Net) → latest_in kept net ≡ latest_on past net
  pub counted : (net : Net) (kind : ℕ) → IsKind verdict_kinds kind → count_in kept.tally net kind ≡ shown (count_of past net kind)
