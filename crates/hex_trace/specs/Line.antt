-- What one line of a trace says (own).
use Rattle.std.specs.Prelude.{ℕ, ◌^◌, ◌==◌, Bool, ◌&&◌, ◌||◌, List, length, take, drop, take_while, slice_index, nat_lt, Option, None, Some, Result, Ok, Err, if◌then◌else◌}
use Rattle.std.specs.Char.{is_ascii_digit}
use Rattle.std.specs.Str.Parse.{digits_value}
use Rattle.es_base.specs.Returns.{◌>>=◌}
use Rattle.hex.specs.Hex.{decode_of}
use Rattle.hex.specs.declared.error.FromHexError.{FromHexError}
use Rattle.hex_trace.specs.Frames.{TimedFrame}
use Rattle.hex_trace.specs.declared.fault.TraceCause.{TraceCause}
use Rattle.hex_trace.specs.declared.fault.TraceCause.TheVariants as causes

-- the longest line, in bytes, without its end
-- rule: TRACE-8
abbrev pub longest_line : ℕ
longest_line = 8192

-- the byte with which a comment begins, `#`
abbrev pub comment : ℕ
comment = 35

-- the byte after a line's time
abbrev pub space : ℕ
space = 32

-- the digit 0
abbrev pub zero_digit : ℕ
zero_digit = 48

-- the digits of a line's time: those that it begins with, but a first 0 ends them
-- rule: TRACE-2
abbrev pub time_digits : List ℕ → List ℕ
time_digits line = if slice_index line 0 == zero_digit then take 1 line else take_while is_ascii_digit line

-- the time that digits say, in microseconds: there is one, and it fits 64 bits
-- rule: TRACE-2
abbrev pub time_from : List ℕ → Result ℕ TraceCause
time_from digits = if nat_lt 0 (length digits) && nat_lt (digits_value 10 digits) (2 ^ 64) then Ok (digits_value 10 digits) else Err causes.Time

-- the octets after the space
-- rule: TRACE-3
abbrev pub after_space : List ℕ → Result (List ℕ) TraceCause
after_space rest = if slice_index rest 0 == space then Ok (drop 1 rest) else Err causes.Space

abbrev pub octets_if_decoded : Result (List ℕ) FromHexError → Result (List ℕ) TraceCause
octets_if_decoded (Ok octets) = Ok octets
octets_if_decoded (Err fault) = Err causes.Hex

-- the octets that hexadecimal digits say
-- rule: TRACE-3
abbrev pub octets_of_digits : List ℕ → Result (List ℕ) TraceCause
octets_of_digits digits = octets_if_decoded (decode_of digits)

-- a line without a frame: it is empty, or begins with #
-- rule: TRACE-6
abbrev pub is_skipped : List ℕ → Bool
is_skipped line = length line == 0 || slice_index line 0 == comment

-- the frame of a line that follows one with a frame of the time `before`, in microseconds: none if
-- the line is skipped; or what is wrong with it
-- rule: TRACE-5, TRACE-6, TRACE-8, TRACE-13
unfoldable pub frame_from : ℕ → List ℕ → Result (Option TimedFrame) TraceCause
frame_from before line =
    if nat_lt longest_line (length line) then Err causes.LongLine
    else if is_skipped line then Ok None
    else do
      time ← time_from (time_digits line)
      digits ← after_space (drop (length (time_digits line)) line)
      octets ← octets_of_digits digits
      if nat_lt time before then Err causes.Falls else Ok (Some (record { time = time; frame = octets }))
