-- A document's fault, and the place at which it stands.
use Rattle.std.specs.Prelude.{◌≡◌, ℕ, List, [], take, slice_get, Option, None, Some, Result, Ok, Err}
use Rattle.toml.specs.Data.{Members}
use Rattle.toml.specs.Parse.{parse_document}
use Rattle.es_base.specs.Returns.{◌>>=◌}
use Rattle.es_base.specs.Config.{ports_in}
use Rattle.es_base.specs.Settings.{Settings}
use Rattle.vl_config.specs.declared.fault.ConfigFault.{ConfigFault}
use Rattle.vl_config.specs.declared.fault.ConfigFault.TheVariants.{Text}
use Rattle.vl_config.specs.declared.fault.Key.TheVariants as keys
use Rattle.vl_config.specs.declared.document.place.FaultPlace.{FaultPlace}
use Rattle.vl_config.specs.Collected.{collected}
use Rattle.vl_config.specs.Document.{constant_if, link_tables}
use Rattle.vl_config.specs.Link.{Head, head_from, link_from}
use Rattle.vl_config.specs.Port.{port_from}
use Rattle.vl_config.specs.Table.{value_at}

-- read one after another, the items before place n have no fault, and the item there has this one
pub record IsFirstFault {X Y : Type 0} (read : List Y → X → Result Y ConfigFault) (items : List X) (n : ℕ) (fault : ConfigFault) : Type 0 where
  pub done : List Y
  pub before : collected read [] (take n items) ≡ Ok done
  pub item : X
  pub there : slice_get items n ≡ Some item
  pub fails : read done item ≡ Err fault

-- ---- in a link's table

-- the fault of this table, read after these links, is that of its port at this place; at none, it comes before the ports
abbrev pub IsFaultAtPort : List Settings → Members → Option ℕ → ConfigFault → Type 0
IsFaultAtPort links table None fault = head_from links table ≡ Err fault
IsFaultAtPort links table (Some m) fault =
    (head : Head) × (head_from links table ≡ Ok head) × IsFirstFault (port_from (ports_in links)) head.tables m fault

-- ---- in a document

-- the tables of the links, or a fault that comes before them
abbrev pub link_tables_if : Option Members → Result (List Members) ConfigFault
link_tables_if None = Err Text
link_tables_if (Some document) = do
  constant ← constant_if (value_at keys.Constant document)
  link_tables document

-- the fault is that of the link at this place, and perhaps of a port there; at none, it comes before the links
abbrev pub IsFaultAtLink : Result (List Members) ConfigFault → Option ℕ → Option ℕ → ConfigFault → Type 0
IsFaultAtLink read None port fault = (read ≡ Err fault) × (port ≡ None)
IsFaultAtLink read (Some n) port fault =
    (tables : List Members) × (link : IsFirstFault link_from tables n fault) × (read ≡ Ok tables) × IsFaultAtPort link.done link.item port fault

-- a text has this fault at this place
-- rule: CONF-24
abbrev pub IsFaultAt : List ℕ → FaultPlace → ConfigFault → Type 0
IsFaultAt text place fault = IsFaultAtLink (link_tables_if (parse_document text)) place.link place.port fault
