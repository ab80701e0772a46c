use Rattle.std.proofs.Common.{◌≡◌, map, drop, length}
use Rattle.std.specs.List.{IsDistinct}
use Rattle.toml.specs.View.{table_view}
use Rattle.es_base.specs.Config.{link_number, same_link_number, same_name, ports_in}
use Rattle.vl_config.specs.Collected.{collected}
use Rattle.vl_config.specs.Names.{AreNamesOf}
use Rattle.vl_config.specs.Link.{link_from, links_from}
use Rattle.vl_config.proofs.document.links_from.Given as goal

abbrev pub invariant-loop-table : goal.invariant-loop-table
invariant-loop-table l = record {
  value : collected link_from l.links (map (λ table. table_view table.now) (drop l.table-index l.tables)) ≡ links_from (map (λ table. table_view table.now) l.tables);
  few : length l.links ≡ l.table-index;
  numbers : IsDistinct same_link_number (map link_number l.links);
  distinct : IsDistinct same_name (ports_in l.links);
  names : AreNamesOf l.names (ports_in l.links);
}
