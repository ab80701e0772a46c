use Rattle.std.proofs.Common.{◌≡◌, ◌<◌, ◌^◌, take}
use Rattle.std.specs.Str.Parse.{digits_value}
use Rattle.hex_trace.proofs.line.time_from.Given as goal

-- the time is what the digits so far say
abbrev pub invariant-digits : goal.invariant-digits
invariant-digits l =
    record {
      said : l.time ≡ digits_value 10 (take l.digit-index l.digits);
      fits : l.time < 2 ^ 64;
    }
