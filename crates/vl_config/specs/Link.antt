-- A link of the document.
use Rattle.std.specs.Prelude.{ℕ, Bool, true, List, [], Option, Some, None, Result, Ok}
use Rattle.std.specs.List.{list_any}
use Rattle.toml.specs.Data.{Data, Members}
use Rattle.es_base.specs.Returns.{◌>>=◌}
use Rattle.es_base.specs.Limits.{most_ports, longest_skew, longest_reassembly, widest_window}
use Rattle.es_base.specs.Port.{Port}
use Rattle.es_base.specs.Settings.{Settings}
use Rattle.es_base.specs.Config.{has_link_number, ports_in}
use Rattle.vl_config.specs.declared.fault.ConfigFault.{ConfigFault}
use Rattle.vl_config.specs.declared.fault.ConfigFault.TheVariants.{DoubleLink}
use Rattle.vl_config.specs.declared.fault.Key.TheVariants as keys
use Rattle.vl_config.specs.Collected.{collected}
use Rattle.vl_config.specs.Table.{value_at, integer_at, integer_or, u16_value_at, flag_or, tables_from}
use Rattle.vl_config.specs.Port.{port_from, unless}

-- ---- its ports

abbrev pub port_tables_if : Option Data → Result (List Members) ConfigFault
port_tables_if None = Ok []
port_tables_if (Some value) = tables_from keys.Port most_ports value

-- rule: CONF-9
abbrev pub port_tables : Members → Result (List Members) ConfigFault
port_tables table = port_tables_if (value_at keys.Port table)

-- the ports of these tables, after the ports of the earlier links
abbrev pub ports_from : List Port → List Members → Result (List Port) ConfigFault
ports_from earlier = collected (port_from earlier) []

-- ---- the link

-- the link number, which no earlier link has
-- rule: CONF-4
abbrev pub link_number_from : List Settings → Members → Result ℕ ConfigFault
link_number_from links table = do
  vl ← u16_value_at keys.Vl table
  unless (list_any (has_link_number vl) links) DoubleLink vl

-- default window of integrity checking, in sequence numbers (own)
abbrev pub default_window : ℕ
default_window = 2

-- rule: CONF-8
abbrev pub window_from : Members → Result ℕ ConfigFault
window_from table = integer_or keys.Window 1 widest_window default_window table

-- what a link's table says before its ports, and the tables of these
pub record Head : Type 0 where
  pub vl : ℕ
  pub skew_max : ℕ
  pub redundancy : Bool
  pub reassembly : ℕ
  pub window : ℕ
  pub tables : List Members

-- rule: CONF-5, CONF-6, CONF-7
abbrev pub head_from : List Settings → Members → Result Head ConfigFault
head_from links table = do
  vl ← link_number_from links table
  skew_max ← integer_at keys.SkewMaxUs 0 longest_skew table
  redundancy ← flag_or keys.Redundancy true table
  reassembly ← integer_at keys.ReassemblyUs 0 longest_reassembly table
  window ← window_from table
  tables ← port_tables table
  Ok (record { vl = vl; skew_max = skew_max; redundancy = redundancy; reassembly = reassembly; window = window; tables = tables })

abbrev pub link_of_head : Head → List Port → Settings
link_of_head head ports = record {
  vl = record { 0 = head.vl };
  skew_max = head.skew_max;
  redundancy = head.redundancy;
  reassembly = head.reassembly;
  window = head.window;
  ports = ports;
}

-- the link of this table, after these links
-- rule: CONF-18
abbrev pub link_from : List Settings → Members → Result Settings ConfigFault
link_from links table = do
  head ← head_from links table
  ports ← ports_from (ports_in links) head.tables
  Ok (link_of_head head ports)

abbrev pub links_from : List Members → Result (List Settings) ConfigFault
links_from = collected link_from []
