use Rattle.std.proofs.Common.{rules, ◌≡◌, ℕ, ◌+◌, length, get_or, w64, List, ap, ◌∙◌, arith}
use Rattle.std.specs.Int.{to_be_bytes}
use Rattle.sampling_port.proofs.Octets.{in_the_middle, octet_of}
use Rattle.sampling_port.proofs.partition.copy.write_word.Goals as goal

pub returns-clause-within : goal.returns-clause-within
returns-clause-within c i low =
    let octets : List ℕ = to_be_bytes w64 c.args.word in
    let fits = c.requires in
    let now : c.copy_from_slice.new.self ≡ octets = search rules in
    let many : length c.copy_from_slice.new.self ≡ 8 = ap (λ (l : List ℕ). length l) now in
    in_the_middle c.args.first c.args.out.now c.copy_from_slice.new.self _ i (omega (arith, fits)) (omega (arith, low, many))
    ∙ ap (λ (l : List ℕ). get_or l i 0) now ∙ octet_of c.args.word i low
