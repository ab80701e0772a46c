use Rattle.std.proofs.Common.{rules, ◌≡◌, ℕ, ◌+◌, ◌-◌, length, get_or, take, drop, w64, List, ap, ◌∙◌, arith}
use Rattle.std.specs.Int.{to_be_bytes}
use Rattle.std.proofs.lemmas.List.{get_or-take, get_or-drop, length-take-le, length-drop}
use Rattle.sampling_port.proofs.Octets.{in_the_middle, octet_of}
use Rattle.sampling_port.proofs.partition.copy.write_part.Goals as goal

pub returns-clause-within : goal.returns-clause-within
returns-clause-within c i low =
    let octets : List ℕ = to_be_bytes w64 c.args.word in
    let rest : List ℕ = drop c.args.from octets in
    let inside = c.requires.0 in let fits = c.requires.1 in
    let now : c.copy_from_slice.new.self ≡ take (c.args.from + c.args.count - c.args.from) rest = search rules in
    let size : length rest ≡ 8 - c.args.from = length-drop c.args.from octets in
    let many : length c.copy_from_slice.new.self ≡ c.args.from + c.args.count - c.args.from =
    ap (λ (l : List ℕ). length l) now ∙ length-take-le (c.args.from + c.args.count - c.args.from) rest (omega (arith, inside, size)) in
    in_the_middle c.args.first c.args.out.now c.copy_from_slice.new.self _ i (omega (arith, fits)) (omega (arith, low, many))
    ∙ ap (λ (l : List ℕ). get_or l i 0) now ∙ get_or-take (c.args.from + c.args.count - c.args.from) rest i 0 (omega (arith, low))
    ∙ get_or-drop c.args.from octets i 0 ∙ octet_of c.args.word (c.args.from + i) (omega (arith, low, inside))
