-- The first table of a document with a key that isn't its own, which an opening passes over.
use Rattle.std.specs.Prelude.{ℕ, ◌+◌, Bool, not, List, [], ◌∷◌, ◌++◌, Option, None, Some, option_map, Result, Ok, Err, if◌then◌else◌}
use Rattle.std.specs.List.{list_any}
use Rattle.toml.specs.Data.{Members, no_members, member}
use Rattle.toml.specs.Parse.{parse_document}
use Rattle.vl_config.specs.declared.fault.ConfigFault.{ConfigFault}
use Rattle.vl_config.specs.declared.document.keys.Level.{Level}
use Rattle.vl_config.specs.declared.document.place.FaultPlace.{FaultPlace}
use Rattle.vl_config.specs.declared.document.stray.Stray.{Stray}
use Rattle.vl_config.specs.Document.{link_tables}
use Rattle.vl_config.specs.Keys.{is_own, level_at}
use Rattle.vl_config.specs.Line.{stray_line}
use Rattle.vl_config.specs.Link.{port_tables}
use Rattle.vl_config.specs.Octets.{text_of}
use Rattle.vl_config.specs.Place.{nowhere}

-- ---- a table

abbrev pub keys_in : Members → List (List ℕ)
keys_in no_members = []
keys_in (member key value rest) = key ∷ keys_in rest

-- one of its keys isn't its own
-- rule: CONF-28
abbrev pub has_stray : Level → Members → Bool
has_stray level table = list_any (λ key. not (is_own level key)) (keys_in table)

-- ---- the tables of a document in their order, each with its place

-- the tables that were read, or none
abbrev pub or_none : Result (List Members) ConfigFault → List Members
or_none (Ok tables) = tables
or_none (Err fault) = []

-- the tables of ports of this link, the first of which has this place
abbrev pub placed_ports : ℕ → ℕ → List Members → List (FaultPlace × Members)
placed_ports link port [] = []
placed_ports link port (table ∷ tables) = (record { link = Some link; port = Some port }, table) ∷ placed_ports link (port + 1) tables

-- the table of a link, and then those of its ports
abbrev pub placed_link : ℕ → Members → List (FaultPlace × Members)
placed_link link table = (record { link = Some link; port = None }, table) ∷ placed_ports link 0 (or_none (port_tables table))

-- link by link, the first of which has this place
abbrev pub placed_links : ℕ → List Members → List (FaultPlace × Members)
placed_links link [] = []
placed_links link (table ∷ tables) = placed_link link table ++ placed_links (link + 1) tables

-- the document's own table, and then link by link
abbrev pub placed_tables : Members → List (FaultPlace × Members)
placed_tables document = (nowhere, document) ∷ placed_links 0 (or_none (link_tables document))

-- ---- the first table with a key that isn't its own

abbrev pub first_stray : List (FaultPlace × Members) → Option FaultPlace
first_stray [] = None
first_stray ((place, table) ∷ tables) = if has_stray (level_at place) table then Some place else first_stray tables

abbrev pub stray_place_if : Option Members → Option FaultPlace
stray_place_if None = None
stray_place_if (Some document) = first_stray (placed_tables document)

-- its place in this text; none if the text is no TOML document
unfoldable pub stray_place_of : List ℕ → Option FaultPlace
stray_place_of text = stray_place_if (parse_document text)

abbrev pub stray_if_text : Option (List ℕ) → Option Stray
stray_if_text None = None
stray_if_text (Some text) = option_map (λ place. record { place = place; line = stray_line text place }) (stray_place_of text)

-- its place and its line in these octets
-- rule: CONF-28
abbrev pub stray_in : List ℕ → Option Stray
stray_in octets = stray_if_text (text_of octets)
