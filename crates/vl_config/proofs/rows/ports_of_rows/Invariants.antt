use Rattle.std.proofs.Common.{◌≡◌, ◌++◌, true, List, drop, length}
use Rattle.std.specs.List.{IsDistinct}
use Rattle.es_base.specs.Port.{Port, are_apart}
use Rattle.es_base.specs.Config.{same_name}
use Rattle.vl_config.specs.Names.{AreNamesOf}
use Rattle.vl_config.specs.Rows.{read_each, port_of_row, ports_of_rows}
use Rattle.vl_config.proofs.rows.ports_of_rows.Given as goal

abbrev pub invariant-loop-row : goal.invariant-loop-row
invariant-loop-row l = record {
  value : (earlier : List Port) → AreNamesOf l.fn.names earlier
      → read_each (port_of_row earlier) l.ports.items (drop l.row-index l.rows) ≡ ports_of_rows earlier l.rows;
  few : length l.ports.items ≡ l.row-index;
  apart : are_apart l.ports.items ≡ true;
  distinct : (earlier : List Port) → AreNamesOf l.fn.names earlier → IsDistinct same_name earlier → IsDistinct same_name (earlier ++ l.ports.items);
  names : (earlier : List Port) → AreNamesOf l.fn.names earlier → AreNamesOf l.names (earlier ++ l.ports.items);
}
