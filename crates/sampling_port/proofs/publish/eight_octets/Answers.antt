use Rattle.std.proofs.Common.{ℕ, ◌*◌, List, ◌∙◌, arith}
use Rattle.sampling_port.proofs.Octets.{eight_are, from_place}
use Rattle.sampling_port.proofs.publish.eight_octets.Goals as goal

pub returns : goal.returns
returns c =
    let octets : List ℕ = c.args.octets.now in
    let low = c.requires in
    c.read_u64-2.ensures ∙ eight_are c.with_zeros.result octets c.args.place (λ i _. c.with_zeros.ensures i ∙ from_place octets (8 * c.args.place) i (omega (arith, low)))
