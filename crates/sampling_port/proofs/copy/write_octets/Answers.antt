use Rattle.std.proofs.Common.{rules, ◌≡◌, ℕ, length, get_or, take, w64, List, ap, ◌∙◌, arith}
use Rattle.std.specs.Int.{to_be_bytes}
use Rattle.std.proofs.lemmas.List.{get_or-take, length-take-le}
use Rattle.sampling_port.proofs.Octets.{in_the_middle, octet_of}
use Rattle.sampling_port.proofs.copy.write_octets.Goals as goal

pub returns-clause-within : goal.returns-clause-within
returns-clause-within c i low =
    let octets : List ℕ = to_be_bytes w64 c.args.word in
    let count = c.requires.0 in let fits = c.requires.1 in let size = c.told-out in
    let now : c.copy_from_slice.new.self ≡ take c.args.count octets = search rules in
    let many : length c.copy_from_slice.new.self ≡ c.args.count = ap (λ (l : List ℕ). length l) now ∙ length-take-le c.args.count octets count in
    in_the_middle c.args.first c.args.out.now c.copy_from_slice.new.self _ i (omega (arith, fits, size)) (omega (arith, low, many))
    ∙ ap (λ (l : List ℕ). get_or l i 0) now ∙ get_or-take c.args.count octets i 0 low ∙ octet_of c.args.word i (omega (arith, low, count))
