use Rattle.std.proofs.Common.{◌≡◌, ◌≤◌, take}
use Rattle.std.specs.Char.{is_ascii_digit}
use Rattle.std.specs.List.{prefix_len}
use Rattle.std.specs.Str.Parse.{digits_value}
use Rattle.hex_trace.proofs.line.leading_number.Given as goal

-- the number is what the digits so far say
abbrev pub invariant-digits : goal.invariant-digits
invariant-digits l =
    record {
      are : l.i ≤ prefix_len is_ascii_digit l.line;
      said : l.number ≡ digits_value 10 (take l.i l.line);
    }
