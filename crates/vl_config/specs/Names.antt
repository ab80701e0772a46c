-- The names of the ports that were read.
use Rattle.std.specs.Prelude.{◌≡◌, ℕ, Bool, List}
use Rattle.std.specs.List.{list_any}
use Rattle.std.specs.BTreeSet.{contains_by}
use Rattle.std.specs.Cmp.Lexicographic.{slice_cmp}
use Rattle.std.specs.Ordering.{nat_cmp}
use Rattle.es_base.specs.Port.{Port}
use Rattle.es_base.specs.Config.{has_name}
use Rattle.vl_config.specs.declared.names.Names.{Names}

-- whether this name is one of them
-- rule: CONF-22
abbrev pub is_among_names : Names → List ℕ → Bool
is_among_names names name = contains_by (λ key. slice_cmp nat_cmp name key.bytes) names.names

-- these are the names of these ports
abbrev pub AreNamesOf : Names → List Port → Type 0
AreNamesOf names ports = (name : List ℕ) → is_among_names names name ≡ list_any (has_name name) ports
