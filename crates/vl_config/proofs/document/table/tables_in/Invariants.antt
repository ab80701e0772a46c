use Rattle.std.proofs.Common.{◌≡◌, map, drop}
use Rattle.toml.specs.View.{view, table_view, items_view}
use Rattle.vl_config.specs.Collected.{collected}
use Rattle.vl_config.specs.Table.{table_from, tables_in}
use Rattle.vl_config.proofs.document.table.tables_in.Given as goal

abbrev pub invariant-loop-item : goal.invariant-loop-item
invariant-loop-item l =
    collected (λ _ value. table_from l.key value) (map (λ table. table_view table.now) l.tables.items) (map view (drop l.item-index l.items)) ≡ tables_in l.key (items_view l.items)
