-- Groups that can stand at one time.
use Rattle.std.specs.Prelude.{◌≡◌, ◌≤◌, false, List, [], ◌∷◌, length}
use Rattle.std.specs.List.{list_any}
use Rattle.es_base.specs.Limits.{most_partials}
use Rattle.link_rules.specs.Groups.{Group, has_key}

-- no two have one key
abbrev pub HaveDistinctKeys : List Group → Type 0
HaveDistinctKeys [] = Unit {0}
HaveDistinctKeys (group ∷ later) = (list_any (has_key group.key) later ≡ false) × HaveDistinctKeys later

-- at most four stand, and no two of them have one key
-- rule: REAS-4
pub record AreApart (groups : List Group) : Type 0 where
  pub few : length groups ≤ most_partials
  pub distinct : HaveDistinctKeys groups
