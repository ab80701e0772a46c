use Rattle.std.proofs.Common.{◌≡◌, ◌∙◌, ap, sym, ℕ, ◌+◌, List, [], ◌∷◌, ◌++◌, length, map, suc, arith, length-append, append_assoc}
use Rattle.std.proofs.lemmas.List.{length-map, map-append}
use Rattle.atomic_table.specs.Seated.{TableId}
use Rattle.triple_buffer.specs.Ends.{BufferReader, BufferWriter, new_reader}
use Rattle.mailbox_port.specs.Port.{buffers_of, mailboxes_from, writer_at}
use Rattle.mailbox_port.specs.declared.port.Mailbox.{Mailbox}
use Rattle.mailbox_port.proofs.Lists.{mailboxes_push, one_writer_more}
use Rattle.mailbox_port.proofs.port.open_mailboxes.Goals as goal

pub loop-place-preserved : goal.loop-place-preserved
loop-place-preserved c =
    let l = c.loop-place in
    let longest = c.args.longest in
    let writer = c.in_ok-writer.writer in
    let before : List TableId = buffers_of l.others.items in
    let pushed = c.in_ok-push-2.ensures.items in
    let buffers : buffers_of c.push-in-loop-place.new.self.items ≡ before ++ writer.buffer ∷ [] =
    ap buffers_of pushed ∙ map-append (λ (w : BufferWriter). w.buffer) l.others.items (writer ∷ []) in
    let many : length before ≡ length l.others.items = length-map l.others.items (λ (w : BufferWriter). w.buffer) in
    let count = l.invariant.count in
    let place : 1 + length before ≡ l.place = omega (arith, many, count) in
    let more : length (l.others.items ++ writer ∷ []) ≡ length l.others.items + 1 = length-append l.others.items (writer ∷ []) in
    let next : suc (length (l.others.items ++ writer ∷ [])) ≡ l.place + 1 = omega (arith, more, count) in
    let reader : c.in_ok-writer.reader ≡ new_reader writer.buffer longest = c.in_ok-writer.ensures.reader in
    let mailbox : ℕ → BufferReader → Mailbox = λ place end. record { reader = end; place = place } in
    let first : List Mailbox = c.push.new.self.items in
    let others : List Mailbox = mailboxes_from longest 1 before in
    record {
      count = ap (λ (all : List BufferWriter). suc (length all)) pushed ∙ next;
      others = pushed ∙ one_writer_more longest l.others.items writer l.invariant.others c.in_ok-writer.ensures.writer ∙ ap (λ (bs : List TableId). map (writer_at longest []) bs) (sym buffers);
      mailboxes = c.in_ok-push-3.ensures.items ∙ ap (λ (all : List Mailbox). all ++ mailbox l.place c.in_ok-writer.reader ∷ []) l.invariant.mailboxes
          ∙ append_assoc first others (mailbox l.place c.in_ok-writer.reader ∷ [])
          ∙ ap (λ (end : BufferReader). first ++ (others ++ mailbox l.place end ∷ [])) reader
          ∙ ap (λ (n : ℕ). first ++ (others ++ mailbox n (new_reader writer.buffer longest) ∷ [])) (sym place)
          ∙ ap (λ (all : List Mailbox). first ++ all) (sym (mailboxes_push longest 1 before writer.buffer)) ∙ ap (λ (bs : List TableId). first ++ mailboxes_from longest 1 bs) (sym buffers);
    }
