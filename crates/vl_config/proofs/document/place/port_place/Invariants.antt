use Rattle.std.proofs.Common.{◌≡◌, ◌++◌, List, map, drop}
use Rattle.toml.specs.View.{table_view}
use Rattle.es_base.specs.Port.{Port}
use Rattle.vl_config.specs.Names.{AreNamesOf}
use Rattle.vl_config.specs.Place.{port_place}
use Rattle.vl_config.proofs.document.place.port_place.Given as goal

abbrev pub invariant-loop-table : goal.invariant-loop-table
invariant-loop-table l = (earlier : List Port) → AreNamesOf l.fn.names (earlier ++ l.fn.ports.items) → record {
  value : port_place earlier l.ports.items (map (λ table. table_view table.now) (drop l.table-index l.tables)) ≡ port_place earlier l.fn.ports.items (map (λ table. table_view table.now) l.tables);
  names : AreNamesOf l.names (earlier ++ l.ports.items);
}
