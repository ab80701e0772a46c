-- The command line of the program, `afdx_play --config FILE --a FILE --b FILE [--at MICROSECONDS] [--threads]
-- [--explain]`, as `clap` reads it.
use Rattle.std.specs.Prelude.{◌≡◌, ◌≤◌, ℕ, List, [], ◌∷◌, map, Bool, true, false, Option, Some, None, IfSome, option_map, ⊤, ◌⊎◌, String, codes, string_bytes}
use Rattle.std.specs.Str.Parse.{digits_value, without_leading_plus}
use Rattle.std.specs.declared.alloc.Global.{Global}
use Rattle.clap.specs.Simple.{on_top}
use Rattle.clap.specs.Words.{App, IsUnsignedIn, Rule, Row, Text, first_of, fault_of, found_of, kind_of, matches_of, new_app, new_rule, one_of, rows_of, takes, with_rule}
use Rattle.clap.specs.declared.builder.action.ArgAction.TheVariants.{Set, SetTrue}
use Rattle.clap.specs.declared.builder.value_parser.ValueParser.TheVariants.{Unsigned}
use Rattle.clap.specs.declared.error.Error.{Error}
use Rattle.clap.specs.declared.error.kind.ErrorKind.{ErrorKind}
use Rattle.clap.specs.declared.error.kind.ErrorKind.TheVariants.{DisplayHelp, DisplayVersion, OutOfMemory}
use Rattle.clap.specs.declared.parser.matches.ArgMatches.{ArgMatches}
use Rattle.command_line.specs.declared.fault.LineFault.{LineFault}
use Rattle.command_line.specs.declared.fault.LineFault.TheVariants.{Shown, Refused, Memory}
use Rattle.command_line.specs.declared.line.Line.{Line}

-- an option that has to be given, with one value: `--NAME FILE`
abbrev pub file_option : Text → Rule
file_option name = record (new_rule name) {
  long = Some name;
  action = Some Set;
  value_names = 1;
  required = true;
}

-- the latest time that an option takes, in microseconds: the greatest number of 63 bits (own)
abbrev pub latest_time : ℕ
latest_time = 9223372036854775807

-- an option that may be left out, with one value, a time: `--NAME MICROSECONDS`
-- rule: CMD-2
abbrev pub time_option : Text → Rule
time_option name = record (new_rule name) {
  long = Some name;
  action = Some Set;
  value_names = 1;
  parser = Some (Unsigned 0 latest_time);
}

-- an option that may be left out, and has no value: `--NAME`
-- rule: CMD-3, CMD-7
abbrev pub flag_option : Text → Rule
flag_option name = record (new_rule name) {
  long = Some name;
  action = Some SetTrue;
}

-- the words are those after the program's name
abbrev pub bare_command : App
bare_command = on_top (λ top. record top { no_binary_name = true; has_version = true }) (new_app (codes "afdx_play"))

-- rule: CMD-1
abbrev pub play_command : App
play_command = with_rule (with_rule (with_rule (with_rule (with_rule (with_rule bare_command
    (file_option (codes "config"))) (file_option (codes "a"))) (file_option (codes "b"))) (time_option (codes "at")))
    (flag_option (codes "threads"))) (flag_option (codes "explain"))

-- the words as texts
abbrev pub texts_of : List (String Global) → List Text
texts_of = map string_bytes

-- the command takes the words (crates above need not look at the command, so this is unfoldable, and so
-- are the other two statements of words)
unfoldable pub IsTakenByCommand : List (String Global) → Type 0
IsTakenByCommand words = takes play_command (texts_of words) ≡ true

-- what a parse matched
abbrev pub given_rows : ArgMatches → List Row
given_rows matches = rows_of (found_of matches)

-- decimal digits, before which a plus may stand, of a number up to the latest time
abbrev pub IsTime : Text → Type 0
IsTime = IsUnsignedIn 0 latest_time

-- the number that they say
abbrev pub microseconds_in : Text → ℕ
microseconds_in text = digits_value 10 (without_leading_plus text)

-- a flag is on if the command matches `true` for it, as it does where the words have it, and off if it matches
-- `false`, as it does where they don't, or nothing
-- rule: CMD-3, CMD-7
abbrev pub IsFlag : Option Text → Bool → Type 0
IsFlag matched flag = (matched ≡ Some (codes "true") → flag ≡ true) × (matched ≡ Some (codes "false") → flag ≡ false) × (matched ≡ None → flag ≡ false)

-- the files are the values that the command matches in the words, each under its own option; the time of
-- the report is the number that it matches, and there is none if the option isn't given; each flag is what it matches
-- for it
-- rule: CMD-1
abbrev pub IsLineIn : List Row → Line → Type 0
IsLineIn rows line = (first_of (codes "config") rows ≡ Some (string_bytes line.config))
    × (first_of (codes "a") rows ≡ Some (string_bytes line.a))
    × (first_of (codes "b") rows ≡ Some (string_bytes line.b))
    × (option_map microseconds_in (first_of (codes "at") rows) ≡ line.at)
    × IsFlag (one_of (codes "threads") rows) line.threads
    × IsFlag (one_of (codes "explain") rows) line.explain

-- the time of the report, if it is given, is at most the latest
-- rule: CMD-2
abbrev pub HasTimeInRange : Line → Type 0
HasTimeInRange line = IfSome line.at (λ at. at ≤ latest_time)

-- the line is what the command matches in these words
unfoldable pub IsLineOfWords : List (String Global) → Line → Type 0
IsLineOfWords words line = IsLineIn (matches_of play_command (texts_of words)) line

-- the one fault that the command finds in the words
unfoldable pub HasWordFault : ErrorKind → List (String Global) → Type 0
HasWordFault kind words = fault_of play_command (texts_of words) ≡ kind ∷ []

-- the words ask for a text: the help, or the version
abbrev pub IsRequest : ErrorKind → Type 0
IsRequest kind = (kind ≡ DisplayHelp) ⊎ (kind ≡ DisplayVersion)

-- the error is of the fault in the words: a text if they ask for one, and else a refusal
-- rule: CMD-5, FAULT-3
abbrev pub IsFaultOfWords : List (String Global) → LineFault → Type 0
IsFaultOfWords words (Shown error) = HasWordFault (kind_of error) words × IsRequest (kind_of error)
IsFaultOfWords words (Refused error) = HasWordFault (kind_of error) words × (IsRequest (kind_of error) → ⊥)
IsFaultOfWords words Memory = ⊤

-- the fault of an error: a text if the words ask for one, memory if it ran out, else a refusal
-- rule: CMD-5, FAULT-3
abbrev pub fault_from : ErrorKind → Error → LineFault
fault_from DisplayHelp error = Shown error
fault_from DisplayVersion error = Shown error
fault_from OutOfMemory error = Memory
fault_from other error = Refused error
