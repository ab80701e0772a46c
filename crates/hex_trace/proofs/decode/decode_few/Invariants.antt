use Rattle.std.proofs.Common.{◌≡◌, ◌/◌, drop, length}
use Rattle.std.specs.Simd.{first_chunks}
use Rattle.std.specs.Slice.Iter.{iter_rest}
use Rattle.hex_trace.proofs.Pairs.{Decoded}
use Rattle.hex_trace.proofs.decode.decode_few.Given as goal

-- what the pairs so far say, and which pairs are left
abbrev pub invariant-pairs : goal.invariant-pairs
invariant-pairs l =
    record {
      said : Decoded l.are_digits l.digits l.octets l.octet-index;
      left : iter_rest l.rest ≡ drop l.octet-index (first_chunks 2 (length l.digits / 2) l.digits);
    }
