use Rattle.std.proofs.Common.{rules, ◌≡◌, ◌∙◌, ℕ, sym, subst, Option}
use Rattle.triple_buffer.specs.declared.latest.Latest.{Latest}
use Rattle.triple_buffer.specs.Ends.{IsReadOf, IsReceived, MayReceive, BufferReader, reader_end}
use Rattle.triple_buffer.proofs.Ends.{all_seen, may_receive, received_end, received_reader}
use Rattle.triple_buffer.proofs.reader.Reader.update.Goals as goal
use Rattle.triple_buffer.proofs.reader.Reader.update.Goals.{in-Some-1, in-None-1}

pub look-requires-clause-reader : goal.look-requires-clause-reader
look-requires-clause-reader c = c.self.invariant.2.view

pub receive-slot-requires-clause-newer : goal.receive-slot-requires-clause-newer
receive-slot-requires-clause-newer c =
    let key : c.deref-then-look.result.now.table.shared.key ≡ c.self.inside.longest = search rules in
    let own : c.take-own.result ≡ c.self.inside.own = search rules in
    subst (λ (n : ℕ). MayReceive n c.look.new.right.me c.self.inside.slot c.take-own.result) (sym key)
    (subst (λ (x : Option Latest). MayReceive c.self.inside.longest c.look.new.right.me c.self.inside.slot x) (sym own)
    (may_receive _ _ _ _ _ c.self.invariant.2 c.look.ensures.table.1 (c.look.ensures.newer c.if-look.true)))

pub invariant_of-self-then-look-2 : goal.invariant_of-self-then-look-2
invariant_of-self-then-look-2 c =
    let key : c.deref-then-look.result.now.table.shared.key ≡ c.self.inside.longest = search rules in
    let got = subst (λ (n : ℕ). IsReceived n c.look.new.right.me c.receive-slot.new.right.me c.receive-slot.result.0 c.receive-slot.result.1) key c.receive-slot.ensures.received in (
      c.self.invariant.0,
      c.receive-slot.ensures.table ∙ c.look.ensures.table.0 ∙ c.self.invariant.1,
      received_reader _ _ _ _ _ _ _ _ c.self.invariant.2 (c.look.ensures.newer c.if-look.true) got,
    )

pub invariant_of-self-else-look : goal.invariant_of-self-else-look
invariant_of-self-else-look c = (
  c.self.invariant.0,
  c.look.ensures.table.0 ∙ c.self.invariant.1,
  all_seen _ _ _ _ _ c.self.invariant.2 c.look.ensures.table.1 (c.look.ensures.all c.if-look.false).0,
)

pub returns-then-look : goal.returns-then-look
returns-then-look c =
    let key : c.deref-then-look.result.now.table.shared.key ≡ c.self.inside.longest = search rules in
    let got = subst (λ (n : ℕ). IsReceived n c.look.new.right.me c.receive-slot.new.right.me c.receive-slot.result.0 c.receive-slot.result.1) key c.receive-slot.ensures.received in
    let read = received_end c.self.inside.right.table_id c.receive-slot.new.right.table_id _ _ _ _ _ _ _ _ (c.receive-slot.ensures.table ∙ c.look.ensures.table.0) c.self.invariant.2 (c.look.ensures.newer c.if-look.true) got in
    subst (λ (v : BufferReader). IsReadOf v c.match-self-own.self) c.self.view_is
    (elim c.match-self-own.branch [
      | in-Some-1 w ↦ subst (λ (v : BufferReader). IsReadOf (reader_end c.self.inside.right.table_id c.self.inside.longest c.self.inside.right.me) v) (sym w.self-is) read
      | in-None-1 w ↦ subst (λ (v : BufferReader). IsReadOf (reader_end c.self.inside.right.table_id c.self.inside.longest c.self.inside.right.me) v) (sym w.self-is) read
    ])
