-- A configuration from a table of numbers: the rules of a text, in their order, of numbers that stand where a text has
-- keys.
use Rattle.std.specs.Prelude.{◌≡◌, ◌⊎◌, ℕ, ◌==◌, Bool, true, false, ◌&&◌, nat_lt, drop, List, [], ◌∷◌, ◌++◌, length, nat_le, take, Option, None, Some, Result, Ok, Err, if◌then◌else◌}
use Rattle.es_base.specs.declared.port.PortKind.{PortKind}
use Rattle.es_base.specs.declared.port.PortKind.TheVariants as kinds
use Rattle.es_base.specs.Returns.{◌>>=◌}
use Rattle.std.specs.List.{list_any}
use Rattle.std.specs.Str.{bytes_eq}
use Rattle.es_base.specs.Limits.{deepest_queue, longest_reassembly, longest_refresh, longest_skew, most_links, most_ports, most_readers, widest_window}
use Rattle.es_base.specs.Config.{Configuration, has_link_number, ports_in}
use Rattle.es_base.specs.Settings.{Settings}
use Rattle.es_base.specs.Port.{Port}
use Rattle.vl_config.specs.declared.fault.ConfigFault.{ConfigFault}
use Rattle.vl_config.specs.declared.fault.ConfigFault.TheVariants.{DoubleLink, Memory, Missing, Range, TooMany}
use Rattle.vl_config.specs.declared.fault.Key.{Key}
use Rattle.vl_config.specs.declared.fault.Key.TheVariants as keys
use Rattle.vl_config.specs.declared.document.port.Service.{Service}
use Rattle.vl_config.specs.declared.document.port.Service.TheVariants.{Sampling, Queuing}
use Rattle.vl_config.specs.declared.rows.LinkRow.{LinkRow}
use Rattle.vl_config.specs.declared.rows.PortRow.{PortRow}
use Rattle.vl_config.specs.declared.rows.TableFault.{TableFault}
use Rattle.vl_config.specs.Place.{nowhere}
use Rattle.vl_config.specs.Octets.{text_of}
use Rattle.vl_config.specs.Port.{largest_message, name_from, unless, unrepeated_port}
use Rattle.vl_config.specs.Table.{greatest_u16}

-- a number from `least` to `greatest`
abbrev pub bounded : Key → ℕ → ℕ → ℕ → Result ℕ ConfigFault
bounded key least greatest n = if nat_le least n && nat_le n greatest then Ok n else Err (Range key)

abbrev pub name_if : Option (List ℕ) → Result (List ℕ) ConfigFault
name_if None = Err (Range keys.Name)
name_if (Some text) = name_from text

-- the name at the beginning of its room, of 16 octets
-- rule: CONF-10
abbrev pub name_of_row : PortRow → Result (List ℕ) ConfigFault
name_of_row row = if nat_le row.name_len 16 then name_if (text_of (take row.name_len row.name)) else Err (Range keys.Name)

abbrev pub is_this : List ℕ → Result (List ℕ) ConfigFault → Bool
is_this name (Ok own) = bytes_eq own name
is_this name (Err fault) = false

-- whether this is the name of the row's port
abbrev pub has_row_name : List ℕ → PortRow → Bool
has_row_name name row = is_this name (name_of_row row)

-- rule: CONF-11
abbrev pub service_of_row : PortRow → Result Service ConfigFault
service_of_row row = if row.service == 1 then Ok Sampling else if row.service == 2 then Ok Queuing else Err (Range keys.Kind)

-- a sampling port with its refresh period in microseconds, a queuing port with its depth in messages
-- rule: CONF-15, CONF-16
abbrev pub kind_of_row : Service → PortRow → Result PortKind ConfigFault
kind_of_row Sampling row = do
  refresh ← bounded keys.RefreshUs 0 longest_refresh row.limit
  Ok (kinds.Sampling refresh)
kind_of_row Queuing row = do
  depth ← bounded keys.Depth 1 deepest_queue row.limit
  Ok (kinds.Queuing depth)

-- number of readers of a port that samples, which the configuration doesn't have; that of another says nothing
-- rule: CONF-29
abbrev pub readers_of_row : Service → PortRow → Result ℕ ConfigFault
readers_of_row Sampling row = bounded keys.Readers 0 most_readers row.readers
readers_of_row Queuing row = Ok 0

-- the port of this row, after the ports of the earlier links and after these ports of its own link
-- rule: CONF-13, CONF-14, CONF-18
abbrev pub port_of_row : List Port → List Port → PortRow → Result Port ConfigFault
port_of_row earlier ports row = do
  name ← name_of_row row
  service ← service_of_row row
  udp ← bounded keys.Udp 0 greatest_u16 row.udp
  max ← bounded keys.Max 0 (largest_message service) row.max
  kind ← kind_of_row service row
  readers ← readers_of_row service row
  unrepeated_port (earlier ++ ports) ports (record { name = name; address = row.address; udp = udp; max = max; kind = kind })

-- ---- one after another

-- the next row, or the fault of this one at its place
abbrev pub on_read_row : {Y E Z : Type 0} → Result Y E → (Y → Result Z (E × ℕ)) → ℕ → Result Z (E × ℕ)
on_read_row (Ok one) next at = next one
on_read_row (Err fault) next at = Err (fault, at)

-- what each of the rows gives, each read after those before it; or the first fault, and the place of its row
abbrev pub read_each : {X Y E : Type 0} → (List Y → X → Result Y E) → List Y → List X → Result (List Y) (E × ℕ)
read_each read done [] = Ok done
read_each read done (row ∷ rows) = on_read_row (read done row) (λ one. read_each read (done ++ one ∷ []) rows) (length done)

-- memory ran out, or this is returned
abbrev pub GivesRow : {A B : Type 0} → (A → B) → Result A (ConfigFault × ℕ) → Result B (ConfigFault × ℕ) → Type 0
GivesRow seen (Ok a) wanted = wanted ≡ Ok (seen a)
GivesRow seen (Err fault) wanted = (fault.0 ≡ Memory) ⊎ (wanted ≡ Err fault)

abbrev pub ports_of_rows : List Port → List PortRow → Result (List Port) (ConfigFault × ℕ)
ports_of_rows earlier = read_each (port_of_row earlier) []

-- ---- a link

-- rule: CONF-6
abbrev pub redundancy_of_row : LinkRow → Result Bool ConfigFault
redundancy_of_row row = if row.redundancy == 0 then Ok false else if row.redundancy == 1 then Ok true else Err (Range keys.Redundancy)

-- the link number, which no earlier link has
-- rule: CONF-4
abbrev pub link_number_of_row : List Settings → LinkRow → Result ℕ ConfigFault
link_number_of_row links row = do
  vl ← bounded keys.Vl 0 greatest_u16 row.vl
  unless (list_any (has_link_number vl) links) DoubleLink vl

-- the rows of its ports: the first of those that are left
-- rule: CONF-9
abbrev pub rows_of_link : List PortRow → LinkRow → Result (List PortRow) ConfigFault
rows_of_link rest row =
    if nat_lt most_ports row.ports then Err TooMany
    else if nat_lt (length rest) row.ports then Err (Missing keys.Port)
    else Ok (take row.ports rest)

-- what a link's row says before its ports, and the rows of these
pub record RowHead : Type 0 where
  pub vl : ℕ
  pub skew_max : ℕ
  pub redundancy : Bool
  pub reassembly : ℕ
  pub window : ℕ
  pub rows : List PortRow

-- rule: CONF-5, CONF-7, CONF-8, CONF-18
abbrev pub head_of_row : List Settings → List PortRow → LinkRow → Result RowHead ConfigFault
head_of_row links rest row = do
  vl ← link_number_of_row links row
  skew_max ← bounded keys.SkewMaxUs 0 longest_skew row.skew_max
  redundancy ← redundancy_of_row row
  reassembly ← bounded keys.ReassemblyUs 0 longest_reassembly row.reassembly
  window ← bounded keys.Window 1 widest_window row.window
  rows ← rows_of_link rest row
  Ok (record { vl = vl; skew_max = skew_max; redundancy = redundancy; reassembly = reassembly; window = window; rows = rows })

abbrev pub link_of_rows : RowHead → Result (List Port) (ConfigFault × ℕ) → Result Settings (ConfigFault × Option ℕ)
link_of_rows head (Ok ports) = Ok (record {
  vl = record { 0 = head.vl };
  skew_max = head.skew_max;
  redundancy = head.redundancy;
  reassembly = head.reassembly;
  window = head.window;
  ports = ports;
})
link_of_rows head (Err fault) = Err (fault.0, Some fault.1)

abbrev pub link_if : List Settings → Result RowHead ConfigFault → Result Settings (ConfigFault × Option ℕ)
link_if links (Ok head) = link_of_rows head (ports_of_rows (ports_in links) head.rows)
link_if links (Err fault) = Err (fault, None)

-- the link of this row, after these links, if these rows of ports are left; or the fault, and the place of its port
abbrev pub link_of_row : List Settings → List PortRow → LinkRow → Result Settings (ConfigFault × Option ℕ)
link_of_row links rest row = link_if links (head_of_row links rest row)

abbrev pub GivesLink : Result Settings (ConfigFault × Option ℕ) → Result Settings (ConfigFault × Option ℕ) → Type 0
GivesLink (Ok a) wanted = wanted ≡ Ok a
GivesLink (Err fault) wanted = (fault.0 ≡ Memory) ⊎ (wanted ≡ Err fault)

-- ---- the table

-- rule: CONF-24
abbrev pub on_row : Result Settings (ConfigFault × Option ℕ) → ℕ → (Settings → Result (List Settings) TableFault) → Result (List Settings) TableFault
on_row (Ok link) at next = next link
on_row (Err fault) at next = Err (record { fault = fault.0; place = record { link = Some at; port = fault.1 } })

abbrev pub if_none_left : List PortRow → List Settings → Result (List Settings) TableFault
if_none_left [] links = Ok links
if_none_left (row ∷ rows) links = Err (record { fault = TooMany; place = nowhere })

-- the links of these rows after these links, if these rows of ports are left
abbrev pub links_of_rows : List Settings → List PortRow → List LinkRow → Result (List Settings) TableFault
links_of_rows links rest [] = if_none_left rest links
links_of_rows links rest (row ∷ rows) =
    on_row (link_of_row links rest row) (length links) (λ link. links_of_rows (links ++ link ∷ []) (drop row.ports rest) rows)

abbrev pub config_with : List ℕ → Result (List Settings) TableFault → Result Configuration TableFault
config_with constant (Ok links) = Ok (record { constant = constant; links = links })
config_with constant (Err fault) = Err fault

-- the configuration of a table, or its first fault with its place
-- rule: CONF-3, CONF-18, CONF-26
abbrev pub table_of : List ℕ → List LinkRow → List PortRow → Result Configuration TableFault
table_of constant [] ports = Err (record { fault = Missing keys.Link; place = nowhere })
table_of constant (row ∷ rows) ports =
    if nat_lt most_links (length (row ∷ rows)) then Err (record { fault = TooMany; place = nowhere })
    else config_with constant (links_of_rows [] ports (row ∷ rows))

-- memory ran out, or this is returned
abbrev pub GivesTable : {A B : Type 0} → (A → B) → Result A TableFault → Result B TableFault → Type 0
GivesTable seen (Ok a) wanted = wanted ≡ Ok (seen a)
GivesTable seen (Err fault) wanted = (fault.fault ≡ Memory) ⊎ (wanted ≡ Err fault)
