use Rattle.std.proofs.Common.{rules, ◌≡◌, ℕ, ◌+◌, arith}
use Rattle.sampling_port.proofs.partition.copy.write_octets.Goals as goal

pub returns-then-count-eq8-clause-within : goal.returns-then-count-eq8-clause-within
returns-then-count-eq8-clause-within c i low =
    let all : c.args.count ≡ 8 = search rules in
    let inside = c.requires.0 in
    let whole : c.args.from + i ≡ i = omega (arith, all, inside) in
    rw whole (c.write_word.ensures.within i (omega (arith, all, low)))
