-- How many readers the ports of a table have.
use Rattle.std.specs.Prelude.{ℕ, List, Option, None, Some, if◌then◌else◌}
use Rattle.std.specs.List.{find}
use Rattle.es_base.specs.Port.{Port}
use Rattle.mailbox_port.specs.Port.{is_reader_count}
use Rattle.vl_config.specs.Rows.{has_row_name}
use Rattle.vl_config.specs.declared.rows.PortRow.{PortRow}

-- a row's number of readers, if any; else this number
abbrev pub count_or : ℕ → Option PortRow → ℕ
count_or others None = others
count_or others (Some row) = if is_reader_count row.readers then row.readers else others

-- as many as the row of a port says
-- rule: EMB-20
abbrev pub readers_in : ℕ → List PortRow → Port → ℕ
readers_in others rows port = count_or others (find (has_row_name port.name) rows)
