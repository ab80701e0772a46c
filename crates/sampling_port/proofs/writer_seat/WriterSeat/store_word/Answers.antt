use Rattle.std.proofs.Common.{◌≡◌, length, rules, arith, ap, ◌∙◌, sym}
use Rattle.slot_core.specs.Steps.{stores}
use Rattle.slot_core.specs.Words.{place_of_slot_word, table_words}
use Rattle.sampling_port.specs.Rule.{slots_for}
use Rattle.sampling_port.specs.Seats.{WriterSeated}
use Rattle.sampling_port.specs.Plays.{writer_of, writes}
use Rattle.sampling_port.specs.declared.rule.SeatView.{SeatView}
use Rattle.sampling_port.specs.declared.rule.SeatView.TheVariants.{Writes}
use Rattle.sampling_port.proofs.Turns.{store_at}
use Rattle.sampling_port.proofs.writer_seat.WriterSeat.store_word.Goals as goal

pub store-requires : goal.store-requires
store-requires g c = let is = c.self.invariant.2 ∙ ap (λ (z : WriterSeated). Writes z.knows) c.self.view_is in
    let wide : c.deref.result.now.shared.table_id.words ≡ table_words g.row.READERS (slots_for g.row.READERS) = search rules in
    let low = c.requires.turn.exists in let short = c.requires.turn.within in
    (search rules, omega arith, store_at g.row.READERS (slots_for g.row.READERS) _ _ _ _ is _ _ _ _ (omega arith) c.requires.turn)

pub invariant_of-self : goal.invariant_of-self
invariant_of-self g c =
    let turn : c.args.index ≡ length (writer_of c.self.inside.right.me.0).view.stored = c.requires.turn.next ∙ sym (ap (λ (z : WriterSeated). length z.knows.view.stored) c.self.view_is) in
    let told : c.store.new.seat.me.0 ≡ Writes (writes (writer_of c.self.inside.right.me.0) (stores (writer_of c.self.inside.right.me.0).view c.args.slot c.args.word)) =
    c.store.ensures.2 c.args.slot (ap (place_of_slot_word g.row.READERS c.args.slot) turn) in
    (search rules, search rules, told ∙ sym (ap (λ (z : SeatView). Writes (writer_of z)) told), c.self.invariant.3)

pub returns : goal.returns
returns g c =
    let turn : c.args.index ≡ length (writer_of c.self.inside.right.me.0).view.stored = c.requires.turn.next ∙ sym (ap (λ (z : WriterSeated). length z.knows.view.stored) c.self.view_is) in
    let told : c.store.new.seat.me.0 ≡ Writes (writes c.args.self.now.knows (stores c.args.self.now.knows.view c.args.slot c.args.word)) =
    c.store.ensures.2 c.args.slot (ap (place_of_slot_word g.row.READERS c.args.slot) turn) ∙ ap (λ (z : WriterSeated). Writes (writes z.knows (stores z.knows.view c.args.slot c.args.word))) c.self.view_is in
    let port : c.store.new.seat.table_id ≡ c.args.self.now.port = c.store.ensures.0 ∙ ap (λ (z : WriterSeated). z.port) c.self.view_is in
    λ i. record { port = port i; knows = writer_of (told i) }
