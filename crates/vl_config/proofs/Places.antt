-- The place of the first fault, from the next table on.
use Rattle.std.proofs.Common.{◌≡◌, ℕ, ◌+◌, ◌<◌, List, [], ◌∷◌, ◌++◌, length, get_or, drop, map, Some, Ok, Err, refl}
use Rattle.std.proofs.lemmas.List.{drop_more}
use Rattle.toml.specs.Data.{Members}
use Rattle.es_base.specs.Port.{Port}
use Rattle.es_base.specs.Settings.{Settings}
use Rattle.vl_config.specs.declared.fault.ConfigFault.{ConfigFault}
use Rattle.vl_config.specs.Link.{link_from}
use Rattle.vl_config.specs.Place.{link_place, port_place}
use Rattle.vl_config.specs.Port.{port_from}

-- the table at place i has no fault, as a link's
pub after_link : {T : Type 0} (seen : T → Members) (links : List Settings) (tables : List T) (i : ℕ) (table : T) (link : Settings) → i < length tables → table ≡ get_or tables i table
    → link_from links (seen table) ≡ Ok link → link_place links (map seen (drop i tables)) ≡ link_place (links ++ link ∷ []) (map seen (drop (i + 1) tables))
after_link seen links tables i table link within same gives = rw (drop_more tables i table within, ← same, gives) refl

-- the table at place i has none, as a port's
pub after_port : {T : Type 0} (seen : T → Members) (earlier ports : List Port) (tables : List T) (i : ℕ) (table : T) (port : Port) → i < length tables → table ≡ get_or tables i table
    → port_from earlier ports (seen table) ≡ Ok port → port_place earlier ports (map seen (drop i tables)) ≡ port_place earlier (ports ++ port ∷ []) (map seen (drop (i + 1) tables))
after_port seen earlier ports tables i table port within same gives = rw (drop_more tables i table within, ← same, gives) refl

-- it has one
pub at_port : {T : Type 0} (seen : T → Members) (earlier ports : List Port) (tables : List T) (i : ℕ) (table : T) (fault : ConfigFault) → i < length tables → table ≡ get_or tables i table
    → port_from earlier ports (seen table) ≡ Err fault → port_place earlier ports (map seen (drop i tables)) ≡ Some (length ports)
at_port seen earlier ports tables i table fault within same fails = rw (drop_more tables i table within, ← same, fails) refl
