-- Place of a document's first fault: its link, and its port there.
use Rattle.std.specs.Prelude.{ℕ, List, [], ◌∷◌, ◌++◌, length, Option, None, Some, Result, Ok, Err}
use Rattle.toml.specs.Data.{Members}
use Rattle.toml.specs.Parse.{parse_document}
use Rattle.es_base.specs.Returns.{◌>>=◌}
use Rattle.es_base.specs.Config.{ports_in}
use Rattle.es_base.specs.Port.{Port}
use Rattle.es_base.specs.Settings.{Settings}
use Rattle.vl_config.specs.declared.fault.ConfigFault.{ConfigFault}
use Rattle.vl_config.specs.declared.fault.Key.TheVariants as keys
use Rattle.vl_config.specs.declared.document.place.FaultPlace.{FaultPlace}
use Rattle.vl_config.specs.Document.{constant_if, link_tables}
use Rattle.vl_config.specs.Link.{Head, head_from, link_from}
use Rattle.vl_config.specs.Port.{port_from}
use Rattle.vl_config.specs.Table.{value_at}

-- at no link
abbrev pub nowhere : FaultPlace
nowhere = record { link = None; port = None }

-- the next place, if there is no fault here
abbrev pub on_read : {X A : Type 0} → Result X ConfigFault → (X → A) → A → A
on_read (Ok x) next here = next x
on_read (Err fault) next here = here

-- ---- at a port

-- the place of the first port with a fault, after these ports of its link and the ports of earlier links
abbrev pub port_place : List Port → List Port → List Members → Option ℕ
port_place earlier ports [] = None
port_place earlier ports (table ∷ rest) =
    on_read (port_from earlier ports table) (λ port. port_place earlier (ports ++ port ∷ []) rest) (Some (length ports))

-- in the link's table, by what it says before its ports
abbrev pub port_place_if : List Port → Result Head ConfigFault → Option ℕ
port_place_if earlier (Ok head) = port_place earlier [] head.tables
port_place_if earlier (Err fault) = None

-- ---- at a link

-- the place of the first link with a fault, after these links
abbrev pub link_place : List Settings → List Members → FaultPlace
link_place links [] = nowhere
link_place links (table ∷ rest) =
    on_read (link_from links table) (λ link. link_place (links ++ link ∷ []) rest)
    (record { link = Some (length links); port = port_place_if (ports_in links) (head_from links table) })

-- ---- in a document

abbrev pub place_if : Result (List Members) ConfigFault → FaultPlace
place_if (Ok tables) = link_place [] tables
place_if (Err fault) = nowhere

abbrev pub place_from : Option Members → FaultPlace
place_from None = nowhere
place_from (Some document) = place_if (do
  constant ← constant_if (value_at keys.Constant document)
  link_tables document)

-- rule: CONF-24
unfoldable pub fault_place_of : List ℕ → FaultPlace
fault_place_of text = place_from (parse_document text)
