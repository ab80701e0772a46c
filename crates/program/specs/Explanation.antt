-- The explanation of a configuration's fault (own).
use Rattle.std.specs.Prelude.{ℕ, zero, suc, List, [], ◌++◌, Option, Some, None, codes}
use Rattle.std.specs.Fmt.{decimal}
use Rattle.vl_config.specs.declared.fault.ConfigFault.{ConfigFault}
use Rattle.vl_config.specs.declared.fault.ConfigFault.TheVariants.{Missing, Kind, Range}
use Rattle.vl_config.specs.declared.fault.Key.{Key}
use Rattle.vl_config.specs.declared.fault.Key.TheVariants as keys
use Rattle.program.specs.declared.explanation.Explanation.{Explanation}

abbrev pub allowed_of : Key → List ℕ
allowed_of keys.Constant = codes "a string of 8 hexadecimal digits"
allowed_of keys.Link = codes "1 to 64 tables"
allowed_of keys.Vl = codes "an integer from 0 to 65535"
allowed_of keys.SkewMaxUs = codes "an integer from 0 to 1000000"
allowed_of keys.Redundancy = codes "true or false"
allowed_of keys.ReassemblyUs = codes "an integer from 0 to 10000000"
allowed_of keys.Window = codes "an integer from 1 to 4"
allowed_of keys.Port = codes "0 to 32 tables"
allowed_of keys.Name = codes "a string of 1 to 16 of a-z 0-9 _ -"
allowed_of keys.Kind = codes "\"sampling\" or \"queuing\""
allowed_of keys.Address = codes "a string of four numbers from 0 to 255 with dots between them"
allowed_of keys.Udp = codes "an integer from 0 to 65535"
allowed_of keys.Max = codes "an integer from 0 to 1471 of a sampling port, 8192 of a queuing port"
allowed_of keys.RefreshUs = codes "an integer from 0 to 1000000000"
allowed_of keys.Depth = codes "an integer from 1 to 64"
allowed_of keys.Readers = codes "an integer from 0 to 8"

-- the key that a fault names
abbrev pub named_key : ConfigFault → Option Key
named_key (Missing key) = Some key
named_key (Kind key) = Some key
named_key (Range key) = Some key
named_key other = None

-- a line, from 1, or none
abbrev pub line_text : ℕ → List ℕ
line_text zero = codes "config: line not found"
line_text (suc line) = codes "config: line " ++ decimal (suc line)

abbrev pub allowed_text : Option Key → List ℕ
allowed_text None = []
allowed_text (Some key) = codes ": allowed is " ++ allowed_of key

-- rule: FAULT-7
abbrev pub explanation_text : Explanation → List ℕ
explanation_text explanation = line_text explanation.line ++ allowed_text (named_key explanation.fault)
