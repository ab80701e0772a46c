use Rattle.std.proofs.Common.{◌≡◌, ◌++◌, true, List, map, drop, length}
use Rattle.std.specs.List.{IsDistinct}
use Rattle.toml.specs.View.{table_view}
use Rattle.es_base.specs.Port.{Port, are_apart}
use Rattle.es_base.specs.Config.{same_name}
use Rattle.vl_config.specs.Collected.{collected}
use Rattle.vl_config.specs.Names.{AreNamesOf}
use Rattle.vl_config.specs.Port.{port_from}
use Rattle.vl_config.specs.Link.{ports_from}
use Rattle.vl_config.proofs.document.link.ports_from.Given as goal

abbrev pub invariant-loop-table : goal.invariant-loop-table
invariant-loop-table l = record {
  value : (earlier : List Port) → AreNamesOf l.fn.names earlier
      → collected (port_from earlier) l.ports.items (map (λ table. table_view table.now) (drop l.table-index l.tables))
      ≡ ports_from earlier (map (λ table. table_view table.now) l.tables);
  few : length l.ports.items ≡ l.table-index;
  apart : are_apart l.ports.items ≡ true;
  distinct : (earlier : List Port) → AreNamesOf l.fn.names earlier → IsDistinct same_name earlier → IsDistinct same_name (earlier ++ l.ports.items);
  names : (earlier : List Port) → AreNamesOf l.fn.names earlier → AreNamesOf l.names (earlier ++ l.ports.items);
}
