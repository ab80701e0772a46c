use Rattle.std.proofs.Common.{◌≡◌, ◌*◌, length, take}
use Rattle.hex.specs.Hex.{encode_lower}
use Rattle.output_lines.proofs.encode.encode_blocks.Given as goal

-- the digits of the blocks so far
abbrev pub invariant-whole : goal.invariant-whole
invariant-whole l =
    record {
      digits : take (2 * (16 * l.block)) l.digits ≡ encode_lower (take (16 * l.block) l.octets);
      pairs : length l.digits ≡ 2 * length l.octets;
    }
