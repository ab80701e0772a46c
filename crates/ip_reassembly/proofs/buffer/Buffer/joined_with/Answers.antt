use Rattle.std.proofs.Common.{◌≡◌, ◌∙◌, sym, ◌+◌, Some, true, false, if◌then◌else◌, arith}
use Rattle.ip_reassembly.specs.Covering.{AreCovered}
use Rattle.ip_reassembly.proofs.Came.{all_covered, not_covered}
use Rattle.ip_reassembly.proofs.Written.{joined_length}
use Rattle.ip_reassembly.proofs.buffer.Buffer.joined_with.Goals as goal

pub returns-then-gap-total-clause-joined : goal.returns-then-gap-total-clause-joined
returns-then-gap-total-clause-joined c =
    let end : (if c.args.more then c.self.inside.total else Some (c.args.offset + c.args.len)) ≡ Some c.in_ok-total.total = sym c.total_with.ensures ∙ c.in_ok-total.was in
    let cover : AreCovered c.self.inside.marks.items c.args.offset (c.args.offset + c.args.len) c.in_ok-total.total true =
    all_covered _ _ _ _ c.with-gap.result (omega arith) (omega arith) (rw c.deref.ensures.value at c.with-gap.ensures) (omega arith)
    in
    rw (← c.self.view_is) (λ pieces piece holds more offset len. joined_length _ pieces piece _ _ _ _ true holds more offset len end cover)

pub returns-else-gap-total-clause-joined : goal.returns-else-gap-total-clause-joined
returns-else-gap-total-clause-joined c =
    let end : (if c.args.more then c.self.inside.total else Some (c.args.offset + c.args.len)) ≡ Some c.in_ok-total.total = sym c.total_with.ensures ∙ c.in_ok-total.was in
    let cover : AreCovered c.self.inside.marks.items c.args.offset (c.args.offset + c.args.len) c.in_ok-total.total false =
    not_covered _ _ _ _ c.with-gap.result (omega arith) (omega arith) (rw c.deref.ensures.value at c.with-gap.ensures) (omega arith)
    in
    rw (← c.self.view_is) (λ pieces piece holds more offset len. joined_length _ pieces piece _ _ _ _ false holds more offset len end cover)
