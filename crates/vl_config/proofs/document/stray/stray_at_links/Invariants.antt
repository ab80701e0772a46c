use Rattle.std.proofs.Common.{◌≡◌, map, drop}
use Rattle.toml.specs.View.{table_view}
use Rattle.vl_config.specs.Stray.{first_stray, placed_links}
use Rattle.vl_config.proofs.document.stray.stray_at_links.Given as goal

abbrev pub invariant-loop-link : goal.invariant-loop-link
invariant-loop-link l =
    first_stray (placed_links l.link (map (λ table. table_view table.now) (drop l.link l.tables)))
    ≡ first_stray (placed_links 0 (map (λ table. table_view table.now) l.fn.tables))
