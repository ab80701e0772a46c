-- Where octets came: up to a gap, in a run at the end, and none outside of a least place and a reach.
use Rattle.std.specs.Prelude.{◌≡◌, ℕ, ◌-◌, ◌<◌, ◌≤◌, Bool, true, false, List, ◌++◌, take, drop, replicate, slice_index_or}
use Rattle.es_base.specs.Limits.{longest_joined}
use Rattle.ip_reassembly.specs.declared.runs.Runs.{Runs}

-- these marks, with those of a piece set
abbrev pub with_marks : List Bool → ℕ → ℕ → List Bool
with_marks marks offset end = take offset marks ++ (replicate (end - offset) true ++ drop end marks)

-- those of these marks that are set lie from a least place up to a reach
pub record ReceivedWithin (marks : List Bool) (least reach : ℕ) : Type 0 where
  pub none_before : (i : ℕ) → i < least → slice_index_or marks i false ≡ false
  pub none_from : (i : ℕ) → reach ≤ i → slice_index_or marks i false ≡ false

-- each mark from a place on is set, up to another
abbrev pub IsRunOfMarks : List Bool → ℕ → ℕ → Type 0
IsRunOfMarks marks from to = (i : ℕ) → from ≤ i → i < to → slice_index_or marks i false ≡ true

-- these marks are set up to a gap, which isn't, and from a last place up to the reach; none is set before the least
-- place or from the reach on
pub record AreRuns (marks : List Bool) (runs : Runs) : Type 0 where
  pub within : ReceivedWithin marks runs.least runs.reach
  pub first : IsRunOfMarks marks 0 runs.gap
  pub gap : slice_index_or marks runs.gap false ≡ false
  pub last : IsRunOfMarks marks runs.last runs.reach
  pub order : runs.last ≤ runs.reach
  pub gap_bound : runs.gap ≤ longest_joined
  pub reach_bound : runs.reach ≤ longest_joined
