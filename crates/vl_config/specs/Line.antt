-- The line of a document's fault, or of a key that isn't its table's own (own): the documents that people write have a heading for each link and each port, and
-- a line for each key.
use Rattle.std.specs.Prelude.{ℕ, ◌+◌, ◌-◌, ◌^◌, ◌==◌, Bool, true, false, ◌&&◌, ◌||◌, not, List, length, take, drop, min, codes, Option, None, Some, if◌then◌else◌}
use Rattle.std.specs.List.{fold, prefix_len, starts_with, take_while}
use Rattle.std.specs.Char.{is_ascii_alphanumeric, is_ascii_whitespace}
use Rattle.std.specs.Str.Lines.{lines}
use Rattle.vl_config.specs.Fault.{key_name}
use Rattle.vl_config.specs.Keys.{is_own, level_at}
use Rattle.vl_config.specs.declared.fault.ConfigFault.{ConfigFault}
use Rattle.vl_config.specs.declared.fault.ConfigFault.TheVariants as faults
use Rattle.vl_config.specs.declared.fault.Key.{Key}
use Rattle.vl_config.specs.declared.fault.Key.TheVariants as keys
use Rattle.vl_config.specs.declared.document.line.Heading.{Heading}
use Rattle.vl_config.specs.declared.document.line.Heading.TheVariants.{Link, Port, Other, Not}
use Rattle.vl_config.specs.declared.document.line.Seen.{Seen}
use Rattle.vl_config.specs.declared.document.line.Sought.{Sought}
use Rattle.vl_config.specs.declared.document.line.Wanted.{Wanted}
use Rattle.vl_config.specs.declared.document.line.Wanted.TheVariants as wanted
use Rattle.vl_config.specs.declared.document.place.FaultPlace.{FaultPlace}

-- one more; a count stops at the greatest number of 64 bits
abbrev pub next : ℕ → ℕ
next count = min (count + 1) (2 ^ 64 - 1)

-- ---- by the octets before it

abbrev pub step_octet : ℕ → ℕ → ℕ
step_octet line octet = if octet == 10 then next line else line

-- the line, from 1, of the octet at this place
abbrev pub line_of_octet : List ℕ → ℕ → ℕ
line_of_octet text at = fold step_octet 1 (take at text)

-- ---- a line

-- the line without white space before it
abbrev pub bare : List ℕ → List ℕ
bare line = drop (prefix_len is_ascii_whitespace line) line

-- the line begins with this word
abbrev pub begins_with_word : List ℕ → List ℕ → Bool
begins_with_word line word = starts_with (λ a b. a == b) (bare line) word

abbrev pub heading_of : List ℕ → Heading
heading_of line =
    if begins_with_word line (codes "[[link.port]]") then Port else if begins_with_word line (codes "[[link]]") then Link else if begins_with_word line (codes "[") then Other else Not

-- the line gives the value of the key with this name
abbrev pub gives : List ℕ → List ℕ → Bool
gives line name = begins_with_word line name && begins_with_word (drop (length name) (bare line)) (codes "=")

-- an octet of a bare key (TOML): a letter, a digit, `_` or `-`
abbrev pub is_of_key : ℕ → Bool
is_of_key octet = is_ascii_alphanumeric octet || (octet == 95 || octet == 45)

-- the bare key that the line begins with
abbrev pub key_of_line : List ℕ → List ℕ
key_of_line line = take_while is_of_key (bare line)

-- the line gives the value of this key, or of one that no table of this kind has as its own
abbrev pub gives_wanted : Wanted → List ℕ → Bool
gives_wanted (wanted.Key key) line = gives line (key_name key)
gives_wanted (wanted.Stray level) line = gives line (key_of_line line) && not (is_own level (key_of_line line))

-- ---- the table

-- number of headings of links, or of ports of a link, before the keys at this place
abbrev pub passed : Option ℕ → ℕ
passed None = 0
passed (Some place) = next place

abbrev pub list_key : Option ℕ → Key
list_key None = keys.Link
list_key (Some link) = keys.Port

-- key of a fault
abbrev pub key_of_fault : ConfigFault → FaultPlace → Key
key_of_fault (faults.Missing key) place = key
key_of_fault (faults.Kind key) place = key
key_of_fault (faults.Range key) place = key
key_of_fault faults.DoubleLink place = keys.Vl
key_of_fault faults.DoublePort place = keys.Udp
key_of_fault faults.DoubleName place = keys.Name
key_of_fault faults.TooMany place = list_key place.link
key_of_fault faults.Text place = keys.Link
key_of_fault faults.Memory place = keys.Link

-- in the table at this place
abbrev pub sought_at : FaultPlace → Wanted → Sought
sought_at place one = record { links = passed place.link; ports = passed place.port; wanted = one }

-- ---- the lines, one after another

abbrev pub start : Sought → Seen
start sought = record { lines = 0; links = 0; ports = 0; elsewhere = false; found = if sought.links == 0 then 1 else 0; is_key = false }

abbrev pub after_heading : Heading → Seen → Seen
after_heading Link seen = record seen { links = next seen.links; ports = 0; elsewhere = false }
after_heading Port seen = record seen { ports = next seen.ports; elsewhere = false }
after_heading Other seen = record seen { elsewhere = true }
after_heading Not seen = seen

abbrev pub after_line : Heading → Seen → Seen
after_line heading seen = after_heading heading (record seen { lines = next seen.lines })

-- the last line is in the sought table
abbrev pub is_there : Sought → Seen → Bool
is_there sought seen = not seen.elsewhere && (seen.links == sought.links && seen.ports == sought.ports)

-- its heading is found, and then its key, once
abbrev pub noted : Sought → Seen → Heading → List ℕ → Seen
noted sought seen Not line = if gives_wanted sought.wanted line && not seen.is_key then record seen { found = seen.lines; is_key = true } else seen
noted sought seen Link line = record seen { found = seen.lines }
noted sought seen Port line = record seen { found = seen.lines }
noted sought seen Other line = record seen { found = seen.lines }

abbrev pub step : Sought → Seen → List ℕ → Seen
step sought seen line =
    let now = after_line (heading_of line) seen in
    if is_there sought now then noted sought now (heading_of line) line else now

-- the first line of a table that gives what is wanted, or that of its heading
abbrev pub line_at : List ℕ → FaultPlace → Wanted → ℕ
line_at text place one = (fold (step (sought_at place one)) (start (sought_at place one)) (lines text)).found

-- rule: CONF-25
abbrev pub line_in : List ℕ → ConfigFault → FaultPlace → ℕ
line_in text fault place = line_at text place (wanted.Key (key_of_fault fault place))

-- that of the first key of the table at this place which isn't its own
-- rule: CONF-28
abbrev pub stray_line : List ℕ → FaultPlace → ℕ
stray_line text place = line_at text place (wanted.Stray (level_at place))
