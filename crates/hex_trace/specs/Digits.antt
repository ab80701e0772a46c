-- What a byte is worth as a hexadecimal digit.
use Rattle.std.specs.Prelude.{◌≡◌, ℕ, ◌+◌, ◌-◌, ◌*◌, ◌<◌, ◌≤◌, true, List, slice_index, Option, None, Some}
use Rattle.hex.specs.Hex.{hex_digit_value, is_hex_digit}

-- value of a byte that is no digit
abbrev pub no_digit : ℕ
no_digit = 255

abbrev pub value_or_none : Option ℕ → ℕ
value_or_none (Some value) = value
value_or_none None = no_digit

abbrev pub digit_value : ℕ → ℕ
digit_value b = value_or_none (hex_digit_value b)

-- the pair for the octet at place i has two digits
abbrev pub IsPairAt : List ℕ → ℕ → Type 0
IsPairAt digits i = (is_hex_digit (slice_index digits (2 * i)) ≡ true) × (is_hex_digit (slice_index digits (2 * i + 1)) ≡ true)

-- what this pair says
abbrev pub octet_of_pair : List ℕ → ℕ → ℕ
octet_of_pair digits i = digit_value (slice_index digits (2 * i)) * 16 + digit_value (slice_index digits (2 * i + 1))

-- the mark of the digit 0
abbrev pub least_mark : ℕ
least_mark = 240

-- the mark of a digit is its value and that of 0; the mark of another byte is less
abbrev pub IsMarkFor : Option ℕ → ℕ → Type 0
IsMarkFor (Some value) mark = mark ≡ least_mark + value
IsMarkFor None mark = mark < least_mark

abbrev pub IsMark : ℕ → ℕ → Type 0
IsMark b mark = IsMarkFor (hex_digit_value b) mark

-- 32 marks, all of digits
abbrev pub AreMarks : List ℕ → Type 0
AreMarks marks = (i : ℕ) → i < 32 → least_mark ≤ slice_index marks i

-- what the pair of marks at place i says, if both are of digits
abbrev pub octet_by : List ℕ → ℕ → ℕ
octet_by marks i = (slice_index marks (2 * i) - least_mark) * 16 + (slice_index marks (2 * i + 1) - least_mark)
