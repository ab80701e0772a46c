-- A port of the document.
use Rattle.std.specs.Prelude.{ℕ, Bool, true, false, List, [], ◌∷◌, ◌++◌, codes, Option, Some, None, option_and_then, Result, Ok, Err, if◌then◌else◌}
use Rattle.std.specs.List.{list_any}
use Rattle.std.specs.Option.{ok_or}
use Rattle.std.specs.Str.{bytes_eq}
use Rattle.std.specs.Net.Reader.{read_ipv4}
use Rattle.std.specs.Int.{from_be_bytes, w32}
use Rattle.toml.specs.Data.{Members}
use Rattle.es_base.specs.declared.port.PortKind.{PortKind}
use Rattle.es_base.specs.declared.port.PortKind.TheVariants as kinds
use Rattle.es_base.specs.Returns.{◌>>=◌}
use Rattle.es_base.specs.Limits.{longest_sample, longest_queued, longest_refresh, deepest_queue}
use Rattle.es_base.specs.Name.{is_port_name}
use Rattle.es_base.specs.Port.{Port, accepts}
use Rattle.es_base.specs.Config.{has_name}
use Rattle.vl_config.specs.declared.fault.ConfigFault.{ConfigFault}
use Rattle.vl_config.specs.declared.fault.ConfigFault.TheVariants.{Range, DoubleName, DoublePort}
use Rattle.vl_config.specs.declared.fault.Key.TheVariants as keys
use Rattle.vl_config.specs.declared.document.port.Service.{Service}
use Rattle.vl_config.specs.declared.document.port.Service.TheVariants.{Sampling, Queuing}
use Rattle.vl_config.specs.Table.{text_at, integer_at, integer_or, u16_value_at}

abbrev pub name_from : List ℕ → Result (List ℕ) ConfigFault
name_from text = if is_port_name text then Ok text else Err (Range keys.Name)

-- rule: CONF-10
abbrev pub name_at : Members → Result (List ℕ) ConfigFault
name_at table = do
  text ← text_at keys.Name table
  name_from text

-- rule: CONF-11
abbrev pub service_from : List ℕ → Result Service ConfigFault
service_from text =
    if bytes_eq text (codes "sampling") then Ok Sampling
    else if bytes_eq text (codes "queuing") then Ok Queuing
    else Err (Range keys.Kind)

-- rule: CONF-11
abbrev pub service_at : Members → Result Service ConfigFault
service_at table = do
  text ← text_at keys.Kind table
  service_from text

-- the four octets as one number, if nothing follows them
abbrev pub whole_address : List ℕ × List ℕ → Option ℕ
whole_address (octets, []) = Some (from_be_bytes w32 octets)
whole_address (octets, _ ∷ _) = None

-- an IPv4 address: four decimal numbers without leading zeros and dots between them, in network order
-- rule: CONF-12
abbrev pub address_from : List ℕ → Result ℕ ConfigFault
address_from text = ok_or (option_and_then whole_address (read_ipv4 text)) (Range keys.Address)

abbrev pub address_at : Members → Result ℕ ConfigFault
address_at table = do
  text ← text_at keys.Address table
  address_from text

-- the longest message of a port with this service, in octets
-- rule: CONF-14
abbrev pub largest_message : Service → ℕ
largest_message Sampling = longest_sample
largest_message Queuing = longest_queued

-- a sampling port with its refresh period in microseconds, a queuing port with its depth in messages
-- rule: CONF-15, CONF-16
abbrev pub kind_from : Service → Members → Result PortKind ConfigFault
kind_from Sampling table = do
  refresh ← integer_at keys.RefreshUs 0 longest_refresh table
  Ok (kinds.Sampling refresh)
kind_from Queuing table = do
  depth ← integer_at keys.Depth 1 deepest_queue table
  Ok (kinds.Queuing depth)

abbrev pub unless : Bool → ConfigFault → {A : Type 0} → A → Result A ConfigFault
unless true fault x = Err fault
unless false fault x = Ok x

-- a port whose name no port of `earlier` has, and whose address and UDP port no port of `ports` has
-- rule: CONF-22, CONF-23
abbrev pub unrepeated_port : List Port → List Port → Port → Result Port ConfigFault
unrepeated_port earlier ports port = do
  port ← unless (list_any (has_name port.name) earlier) DoubleName port
  unless (list_any (accepts port.address port.udp) ports) DoublePort port

-- the port of this table, after the ports of the earlier links and after these ports of its own link
-- rule: CONF-18
abbrev pub port_from : List Port → List Port → Members → Result Port ConfigFault
port_from earlier ports table = do
  name ← name_at table
  service ← service_at table
  address ← address_at table
  udp ← u16_value_at keys.Udp table
  max ← integer_or keys.Max 0 (largest_message service) (largest_message service) table
  kind ← kind_from service table
  unrepeated_port (earlier ++ ports) ports (record { name = name; address = address; udp = udp; max = max; kind = kind })
