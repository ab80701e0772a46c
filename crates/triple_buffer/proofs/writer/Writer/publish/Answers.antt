use Rattle.std.proofs.Common.{rules, arith, ◌≡◌, ◌∙◌, ℕ, sym, ap, subst}
use Rattle.triple_buffer.specs.Ends.{IsPublishedBy, MaySend, BufferWriter}
use Rattle.triple_buffer.proofs.Ends.{filled_may_send, sent_writer}
use Rattle.triple_buffer.proofs.writer.Writer.publish.Goals as goal

pub fill-requires-clause-has : goal.fill-requires-clause-has
fill-requires-clause-has c =
    let i = c.self.invariant.2 in
    let same : c.self.inside.longest ≡ c.args.self.now.longest = ap (λ (w : BufferWriter). w.longest) c.self.view_is in
    let short = c.requires.short in let room = i.room in
    (i.own, i.holds, omega (arith, same, short, room))

pub send-self-inside-requires-clause-sends : goal.send-self-inside-requires-clause-sends
send-self-inside-requires-clause-sends c =
    let key : c.deref-2.result.now.table.shared.key ≡ c.self.inside.longest = search rules in
    subst (λ (n : ℕ). MaySend n c.fill.new.right.me c.self.inside.slot) (sym key) (filled_may_send _ _ _ _ _ _ c.self.invariant.2 c.fill.ensures.table.1 c.fill.ensures.filled)

pub invariant_of-self : goal.invariant_of-self
invariant_of-self c =
    let key : c.deref-2.result.now.table.shared.key ≡ c.self.inside.longest = search rules in
    let t = c.send-self-inside.ensures.sent in
    let got = subst (λ (n : ℕ). IsPublishedBy n c.fill.new.right.me c.send-self-inside.new.right.me t.0 c.send-self-inside.result) key t.2 in (
      c.self.invariant.0,
      c.send-self-inside.ensures.table ∙ c.fill.ensures.table.0 ∙ c.self.invariant.1,
      sent_writer _ _ _ _ _ _ _ _ c.self.invariant.2 c.fill.ensures.table.1 got,
    )
