use Rattle.std.proofs.Common.{◌≡◌, [], map, drop, length}
use Rattle.std.specs.List.{IsDistinct}
use Rattle.es_base.specs.Config.{link_number, same_link_number, same_name, ports_in}
use Rattle.vl_config.specs.Names.{AreNamesOf}
use Rattle.vl_config.specs.Rows.{links_of_rows}
use Rattle.vl_config.proofs.rows.links_of_rows.Given as goal

abbrev pub invariant-loop-row : goal.invariant-loop-row
invariant-loop-row l = record {
  value : links_of_rows l.links l.rest (drop l.row-index l.rows) ≡ links_of_rows [] l.ports l.rows;
  few : length l.links ≡ l.row-index;
  numbers : IsDistinct same_link_number (map link_number l.links);
  distinct : IsDistinct same_name (ports_in l.links);
  names : AreNamesOf l.names (ports_in l.links);
}
