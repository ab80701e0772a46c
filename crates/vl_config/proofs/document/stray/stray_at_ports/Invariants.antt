use Rattle.std.proofs.Common.{◌≡◌, map, drop}
use Rattle.toml.specs.View.{table_view}
use Rattle.vl_config.specs.Stray.{first_stray, placed_ports}
use Rattle.vl_config.proofs.document.stray.stray_at_ports.Given as goal

abbrev pub invariant-loop-port : goal.invariant-loop-port
invariant-loop-port l =
    first_stray (placed_ports l.link l.port (map (λ table. table_view table.now) (drop l.port l.tables)))
    ≡ first_stray (placed_ports l.fn.link 0 (map (λ table. table_view table.now) l.fn.tables))
