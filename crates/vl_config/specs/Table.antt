-- The value at one key of a table. Missing comes before Kind, and Kind before Range (own).
use Rattle.std.specs.Prelude.{ℕ, ℤ, pos, negsuc, Bool, ◌&&◌, List, [], ◌∷◌, length, nat_le, Option, Some, None, Result, Ok, Err, if◌then◌else◌}
use Rattle.std.specs.Option.{ok_or}
use Rattle.toml.specs.Data.{Data, Items, no_items, item, Members, as_integer, as_str, as_bool, as_array, as_table, get_member}
use Rattle.vl_config.specs.declared.fault.ConfigFault.{ConfigFault}
use Rattle.vl_config.specs.declared.fault.ConfigFault.TheVariants.{Missing, Kind, Range, TooMany}
use Rattle.vl_config.specs.declared.fault.Key.{Key}
use Rattle.es_base.specs.Returns.{◌>>=◌}
use Rattle.vl_config.specs.Fault.{key_name}
use Rattle.vl_config.specs.Collected.{collected}

-- the value at this key
-- rule: CONF-1
abbrev pub value_at : Key → Members → Option Data
value_at key table = get_member (key_name key) table

-- rule: CONF-19
abbrev pub required : Key → Members → Result Data ConfigFault
required key table = ok_or (value_at key table) (Missing key)

-- ---- integers

abbrev pub within : Key → ℕ → ℕ → ℤ → Result ℕ ConfigFault
within key least greatest (pos n) = if nat_le least n && nat_le n greatest then Ok n else Err (Range key)
within key least greatest (negsuc n) = Err (Range key)

-- the integer that a value is, from `least` to `greatest`
-- rule: CONF-19
abbrev pub integer_from : Key → ℕ → ℕ → Data → Result ℕ ConfigFault
integer_from key least greatest value = do
  integer ← ok_or (as_integer value) (Kind key)
  within key least greatest integer

abbrev pub integer_at : Key → ℕ → ℕ → Members → Result ℕ ConfigFault
integer_at key least greatest table = do
  value ← required key table
  integer_from key least greatest value

abbrev pub integer_if : Key → ℕ → ℕ → ℕ → Option Data → Result ℕ ConfigFault
integer_if key least greatest default None = Ok default
integer_if key least greatest default (Some value) = integer_from key least greatest value

-- the integer at a key, or the default if there is no such key
abbrev pub integer_or : Key → ℕ → ℕ → ℕ → Members → Result ℕ ConfigFault
integer_or key least greatest default table = integer_if key least greatest default (value_at key table)

-- the greatest link number (ARINC 664 Part 7, addressing) and the greatest UDP port (RFC 768), of 16 bits both
abbrev pub greatest_u16 : ℕ
greatest_u16 = 65535

-- rule: CONF-4, CONF-13
abbrev pub u16_value_at : Key → Members → Result ℕ ConfigFault
u16_value_at key table = integer_at key 0 greatest_u16 table

-- ---- texts and truth values

abbrev pub text_from : Key → Data → Result (List ℕ) ConfigFault
text_from key value = ok_or (as_str value) (Kind key)

abbrev pub text_at : Key → Members → Result (List ℕ) ConfigFault
text_at key table = do
  value ← required key table
  text_from key value

abbrev pub flag_if : Key → Bool → Option Data → Result Bool ConfigFault
flag_if key default None = Ok default
flag_if key default (Some value) = ok_or (as_bool value) (Kind key)

abbrev pub flag_or : Key → Bool → Members → Result Bool ConfigFault
flag_or key default table = flag_if key default (value_at key table)

-- ---- arrays of tables

abbrev pub values_in : Items → List Data
values_in no_items = []
values_in (item value items) = value ∷ values_in items

-- the array that a value is
abbrev pub items_from : Key → Data → Result Items ConfigFault
items_from key value = ok_or (as_array value) (Kind key)

-- the table that a value is
abbrev pub table_from : Key → Data → Result Members ConfigFault
table_from key value = ok_or (as_table value) (Kind key)

-- the tables that these values are
abbrev pub tables_in : Key → Items → Result (List Members) ConfigFault
tables_in key items = collected (λ _ value. table_from key value) [] (values_in items)

abbrev pub at_most : ℕ → List Members → Result (List Members) ConfigFault
at_most most tables = if nat_le (length tables) most then Ok tables else Err TooMany

-- the tables of an array of up to `most` tables
-- rule: CONF-17
abbrev pub tables_from : Key → ℕ → Data → Result (List Members) ConfigFault
tables_from key most value = do
  items ← items_from key value
  tables ← tables_in key items
  at_most most tables
