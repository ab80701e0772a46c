use Rattle.std.proofs.Common.{◌∙◌, arith}
use Rattle.std.proofs.lemmas.Grind.{common_steps}
use Rattle.ip_reassembly.proofs.Stretches.{all_held, all_of, came_held}
use Rattle.ip_reassembly.proofs.Written.{holds_one_more}
use Rattle.ip_reassembly.proofs.buffer.Buffer.join.Goals as goal

pub invariant_of-self : goal.invariant_of-self
invariant_of-self c = (c.write.ensures.len ∙ c.self.invariant.0, grind (arith, common_steps), rw (c.mark.ensures) (rw c.deref.ensures.value at c.with-self-inside.ensures))

pub returns : goal.returns
returns c =
    rw (← c.self.view_is, c.total_with-self-inside.ensures) (λ pieces time holds.
    came_held _ c.write.new.octets.items c.mark.new.marks.items _ (holds_one_more (all_of c.self.inside.total c.self.inside.octets.items c.self.inside.marks.items) pieces _ _ _
    (all_held c.self.inside.total c.self.inside.octets.items c.self.inside.marks.items pieces holds) (omega arith) c.write.ensures.places c.mark.ensures))
