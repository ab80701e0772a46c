use Rattle.std.proofs.Common.{rules, ◌≡◌, ◌∙◌, List, [], ◌∷◌, sym, ap, subst, refl, Option, Some}
use Rattle.atomic_table.specs.Table.{opening}
use Rattle.triple_buffer.specs.declared.latest.Latest.{Latest}
use Rattle.triple_buffer.specs.declared.rule.SeatView.TheVariants.{Meets, Reads, Writes}
use Rattle.triple_buffer.specs.Rule.{KeptBuffers, reader_at_first, writer_at_first}
use Rattle.triple_buffer.specs.Plays.{BufferSeat, seat_parted, writer_left}
use Rattle.triple_buffer.proofs.Opens.{opens_at, part_at}
use Rattle.triple_buffer.proofs.Turns.{reader_enters_at, writer_enters_at}
use Rattle.triple_buffer.proofs.Ends.{entered_reader, entered_writer, reader_entering, there, writer_entering}
use Rattle.triple_buffer.proofs.steps.open.Goals as goal

pub new-requires : goal.new-requires
new-requires c = let t = c.requires in
    subst (λ (l : List (Option Latest)). KeptBuffers c.args.longest (opening (1 ∷ []) l (Meets (writer_at_first c.args.longest) (reader_at_first c.args.longest)))) (sym t.3)
    (opens_at c.args.longest t.0 t.1 t.2 t.4.0 t.5.0 t.6.0 t.6.1)

pub split_seat-writer-requires : goal.split_seat-writer-requires
split_seat-writer-requires c = (search rules, search rules, part_at _ _ _ (writer_at_first c.args.longest) (reader_at_first c.args.longest) (ap (λ (m : BufferSeat). m.0) c.in-Ok.ensures.ok.4))

pub load-requires : goal.load-requires
load-requires c =
    let is : c.split_seat-writer.result.me ≡ (Writes (writer_at_first c.args.longest), []) = c.split_seat-writer.ensures.4 ∙ ap (λ (m : BufferSeat). (writer_left m.0, [])) c.in-Ok.ensures.ok.4 in
    (search rules, search rules, writer_enters_at _ _ _ _ _ is refl)

pub load-requires-2 : goal.load-requires-2
load-requires-2 c =
    let is : c.split_seat-writer.new.seat.me ≡ (Reads (reader_at_first c.args.longest), []) = c.split_seat-writer.ensures.2 ∙ ap (λ (m : BufferSeat). (seat_parted m.0, m.1)) c.in-Ok.ensures.ok.4 in
    (search rules, search rules, reader_enters_at _ _ _ _ _ is refl)

pub exchange-own-requires : goal.exchange-own-requires
exchange-own-requires c =
    let is : c.split_seat-writer.new.seat.me ≡ (Reads (reader_at_first c.args.longest), []) = c.split_seat-writer.ensures.2 ∙ ap (λ (m : BufferSeat). (seat_parted m.0, m.1)) c.in-Ok.ensures.ok.4 in
    let t = reader_entering _ _ _ is c.load-2.ensures.2 in
    (search rules, (Some t.0, there _ _ _ t.2))

pub returns-clause-writer : goal.returns-clause-writer
returns-clause-writer c =
    let is : c.split_seat-writer.result.me ≡ (Writes (writer_at_first c.args.longest), []) = c.split_seat-writer.ensures.4 ∙ ap (λ (m : BufferSeat). (writer_left m.0, [])) c.in-Ok.ensures.ok.4 in
    (entered_writer _ _ _ is c.load.ensures.2, (writer_entering _ _ _ is c.load.ensures.2).1)

pub returns-clause-reader : goal.returns-clause-reader
returns-clause-reader c =
    let is : c.split_seat-writer.new.seat.me ≡ (Reads (reader_at_first c.args.longest), []) = c.split_seat-writer.ensures.2 ∙ ap (λ (m : BufferSeat). (seat_parted m.0, m.1)) c.in-Ok.ensures.ok.4 in
    (entered_reader _ _ _ _ _ is c.load-2.ensures.2 c.exchange-own.ensures.2 c.exchange-own.ensures.3, ap (λ (m : BufferSeat). m.0) c.exchange-own.ensures.3 ∙ (reader_entering _ _ _ is c.load-2.ensures.2).1)
