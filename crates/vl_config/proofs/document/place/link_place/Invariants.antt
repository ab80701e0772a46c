use Rattle.std.proofs.Common.{◌≡◌, map, drop}
use Rattle.std.specs.List.{IsDistinct}
use Rattle.toml.specs.View.{table_view}
use Rattle.es_base.specs.Config.{same_name, ports_in}
use Rattle.vl_config.specs.Names.{AreNamesOf}
use Rattle.vl_config.specs.Place.{link_place}
use Rattle.vl_config.proofs.document.place.link_place.Given as goal

abbrev pub invariant-loop-table : goal.invariant-loop-table
invariant-loop-table l = record {
  value : link_place l.links (map (λ table. table_view table.now) (drop l.table-index l.tables)) ≡ link_place l.fn.links (map (λ table. table_view table.now) l.tables);
  distinct : IsDistinct same_name (ports_in l.links);
  names : AreNamesOf l.names (ports_in l.links);
}
