use Rattle.std.proofs.Common.{◌≡◌, rules, arith, ap, ◌∙◌}
use Rattle.slot_core.specs.Words.{table_words}
use Rattle.sampling_port.specs.Rule.{slots_for}
use Rattle.sampling_port.specs.Seats.{ReaderSeated}
use Rattle.sampling_port.specs.declared.rule.SeatView.TheVariants.{Reads}
use Rattle.sampling_port.proofs.Turns.{clear_at}
use Rattle.sampling_port.proofs.reader_seat.ReaderSeat.clear.Goals as goal

pub store-requires : goal.store-requires
store-requires g c = let is = c.self.invariant.2 ∙ ap (λ (z : ReaderSeated). Reads c.self.inside.place z.knows) c.self.view_is in
    let wide : c.deref.result.now.shared.table_id.words ≡ table_words g.row.READERS (slots_for g.row.READERS) = search rules in
    let low = c.self.invariant.3 in
    (search rules, omega arith, clear_at g.row.READERS (slots_for g.row.READERS) _ _ _ _ _ is)
