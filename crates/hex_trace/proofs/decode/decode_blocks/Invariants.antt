use Rattle.std.proofs.Common.{◌≡◌, ℕ, ◌*◌, ◌<◌, ◌↔◌, length, slice_index}
use Rattle.hex_trace.specs.Digits.{AreMarks, IsPairAt, octet_of_pair}
use Rattle.hex_trace.proofs.decode.decode_blocks.Given as goal

-- what the blocks so far say
abbrev pub invariant-whole : goal.invariant-whole
invariant-whole l =
    record {
      marks : AreMarks l.least ↔ ((i : ℕ) → i < 16 * l.block → IsPairAt l.digits i);
      octets : (i : ℕ) → i < 16 * l.block → IsPairAt l.digits i → slice_index l.octets i ≡ octet_of_pair l.digits i;
      pairs : length l.digits ≡ 2 * length l.octets;
    }
