-- What a whole document gives: a configuration, or its first fault.
use Rattle.std.specs.Prelude.{ℕ, List, [], ◌∷◌, Option, Some, None, Result, Ok, Err}
use Rattle.std.specs.Option.{ok_or}
use Rattle.std.specs.Result.{result_ok}
use Rattle.hex.specs.Hex.{decode_sized}
use Rattle.toml.specs.Data.{Data, Members}
use Rattle.toml.specs.Parse.{parse_document}
use Rattle.es_base.specs.Returns.{◌>>=◌}
use Rattle.es_base.specs.Config.{Configuration}
use Rattle.es_base.specs.Limits.{most_links}
use Rattle.vl_config.specs.declared.fault.ConfigFault.{ConfigFault}
use Rattle.vl_config.specs.declared.fault.ConfigFault.TheVariants.{Text, Missing, Range}
use Rattle.vl_config.specs.declared.fault.Key.TheVariants as keys
use Rattle.vl_config.specs.Table.{value_at, required, text_from, tables_from}
use Rattle.vl_config.specs.Link.{links_from}

-- ---- the constant field

-- 8 hexadecimal digits of either case
-- rule: CONF-2
abbrev pub constant_from : List ℕ → Result (List ℕ) ConfigFault
constant_from text = ok_or (result_ok (decode_sized text 4)) (Range keys.Constant)

-- without the key it is 03 00 00 00 (own)
-- rule: CONF-2
abbrev pub constant_if : Option Data → Result (List ℕ) ConfigFault
constant_if None = Ok (3 ∷ 0 ∷ 0 ∷ 0 ∷ [])
constant_if (Some value) = do
  text ← text_from keys.Constant value
  constant_from text

-- ---- the tables of the links, 1 to 64

abbrev pub some_tables : List Members → Result (List Members) ConfigFault
some_tables [] = Err (Missing keys.Link)
some_tables (table ∷ tables) = Ok (table ∷ tables)

-- rule: CONF-3
abbrev pub link_tables : Members → Result (List Members) ConfigFault
link_tables document = do
  value ← required keys.Link document
  tables ← tables_from keys.Link most_links value
  some_tables tables

-- ---- the document

abbrev pub config_from : Members → Result Configuration ConfigFault
config_from document = do
  constant ← constant_if (value_at keys.Constant document)
  tables ← link_tables document
  links ← links_from tables
  Ok (record { constant = constant; links = links })

abbrev pub config_if : Option Members → Result Configuration ConfigFault
config_if None = Err Text
config_if (Some document) = config_from document

-- the configuration in a text, or its first fault; Text if the text is no TOML document
-- rule: CONF-18, CONF-20
unfoldable pub config_in : List ℕ → Result Configuration ConfigFault
config_in text = config_if (parse_document text)
