-- A configuration in octets, which may be no text.
use Rattle.std.specs.Prelude.{◌≡◌, ℕ, List, Option, None, Some, Result, Err, if◌then◌else◌}
use Rattle.std.specs.Str.{is_utf8}
use Rattle.es_base.specs.Config.{Configuration}
use Rattle.vl_config.specs.Document.{config_in}
use Rattle.vl_config.specs.Line.{line_in, line_of_octet}
use Rattle.vl_config.specs.Place.{nowhere, fault_place_of}
use Rattle.vl_config.specs.declared.fault.ConfigFault.{ConfigFault}
use Rattle.vl_config.specs.declared.fault.ConfigFault.TheVariants.{Text}
use Rattle.vl_config.specs.declared.document.place.FaultPlace.{FaultPlace}

-- the text that these octets are, if they are one
-- rule: CONF-21
abbrev pub text_of : List ℕ → Option (List ℕ)
text_of octets = if is_utf8 octets then Some octets else None

abbrev pub config_of_text : Option (List ℕ) → Result Configuration ConfigFault
config_of_text None = Err Text
config_of_text (Some text) = config_in text

-- the configuration in these octets, or its first fault
-- rule: CONF-21
abbrev pub config_of : List ℕ → Result Configuration ConfigFault
config_of octets = config_of_text (text_of octets)

abbrev pub place_if_text : Option (List ℕ) → FaultPlace
place_if_text None = nowhere
place_if_text (Some text) = fault_place_of text

-- place of the first fault of the configuration in these octets
-- rule: CONF-24
abbrev pub fault_place_in : List ℕ → FaultPlace
fault_place_in octets = place_if_text (text_of octets)

-- the line of this fault there, 0 if there is no text
abbrev pub line_of_fault_if : Option (List ℕ) → ConfigFault → FaultPlace → ℕ
line_of_fault_if None fault place = 0
line_of_fault_if (Some text) fault place = line_in text fault place

-- the line of this fault there; of what is no TOML document that of one of its octets
-- rule: CONF-25
abbrev pub IsLineOf : List ℕ → ConfigFault → FaultPlace → ℕ → Type 0
IsLineOf octets Text place line = (at : ℕ) × (line ≡ line_of_octet octets at)
IsLineOf octets fault place line = line ≡ line_of_fault_if (text_of octets) fault place
