use Rattle.std.proofs.Common.{◌≡◌, ◌∙◌, sym, ◌<◌, ◌≤◌, ⊎_elim, slice_index, slice_set, arith}
use Rattle.std.proofs.lemmas.Bool.{cases_lt}
use Rattle.std.proofs.lemmas.Grind.{common_steps}
use Rattle.ip_reassembly.proofs.Stretches.{all_held}
use Rattle.ip_reassembly.proofs.Written.{read_with}
use Rattle.ip_reassembly.proofs.Lists.{is_head}
use Rattle.ip_reassembly.proofs.buffer.Buffer.head_with.Goals as goal

pub loop-i-preserved : goal.loop-i-preserved
loop-i-preserved c =
    let head = c.loop-i.head in
    let here = c.loop-i.i in
    record {
      long = grind (arith, common_steps);
      written = λ k less.
          ⊎_elim
          (λ (before : k < here).
          let kept : slice_index (slice_set head here c.octet_with.result) k ≡ slice_index head k = grind (arith, common_steps) in
          kept ∙ c.loop-i.invariant.written k before)
          (λ (above : here ≤ k).
          let at : k ≡ here = omega arith in
          let put : slice_index (slice_set head here c.octet_with.result) here ≡ c.octet_with.result = grind (arith, common_steps) in
          rw at (put ∙ rw (c.deref.ensures.value) at c.octet_with.ensures))
          (cases_lt k here);
      zeros = λ k above.
          let kept : slice_index (slice_set head here c.octet_with.result) k ≡ slice_index head k = grind (arith, common_steps) in
          kept ∙ c.loop-i.invariant.zeros k (omega arith);
    }

pub returns : goal.returns
returns c =
    rw (← c.self.view_is) (λ pieces p d holds offset octets made long. is_head c.loop-i.head d c.loop-i.invariant.long (λ i less.
    ⊎_elim
    (λ (inside : i < c.args.len).
    let written = c.loop-i.invariant.written i (omega arith) in
    written ∙ rw (← offset, ← octets) (read_with _ pieces p d i (all_held c.self.inside.total c.self.inside.octets.items c.self.inside.marks.items pieces holds) made (omega arith)))
    (λ (past : c.args.len ≤ i).
    let none : slice_index d i ≡ 0 = grind (arith, common_steps) in
    c.loop-i.invariant.zeros i (omega arith) ∙ sym none)
    (cases_lt i c.args.len)))
