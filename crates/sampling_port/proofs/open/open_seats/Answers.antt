use Rattle.std.proofs.Common.{◌≡◌, ℕ, List, [], replicate, rules, arith, subst, sym, ap, ◌∙◌, ◌++◌, ◌∷◌, length}
use Rattle.atomic_table.specs.Table.{opening}
use Rattle.slot_core.specs.Words.{table_words}
use Rattle.sampling_port.specs.Rule.{KeptTable, slots_for}
use Rattle.sampling_port.specs.declared.rule.SeatView.TheVariants.{Opens}
use Rattle.std.specs.Vec.{vec_len}
use Rattle.sampling_port.specs.Seats.{ReaderSeated}
use Rattle.sampling_port.specs.Seats.{new_seat}
use Rattle.sampling_port.proofs.Opens.{opens_at, part_at, lead_at, one_more, count_of}
use Rattle.sampling_port.proofs.open.open_seats.Goals as goal

pub of_words-requires : goal.of_words-requires
of_words-requires g c =
    let zeros : c.deref.result.now ≡ replicate (table_words g.row.READERS (slots_for g.row.READERS)) 0 = search rules in
    subst (λ (z : List ℕ). KeptTable g.row.READERS (slots_for g.row.READERS) (opening z [] (Opens 0))) (sym zeros) (opens_at g.row.READERS (slots_for g.row.READERS))

pub split_seat-part-requires : goal.split_seat-part-requires
split_seat-part-requires g c = (search rules, search rules, part_at g.row.READERS (slots_for g.row.READERS) _ _ _ c.loop-place.invariant.parted (omega arith))

pub split_seat-last-requires : goal.split_seat-last-requires
split_seat-last-requires g c = (search rules, search rules, lead_at g.row.READERS (slots_for g.row.READERS) _ _ _ c.loop-place.invariant.parted)

pub loop-place-preserved : goal.loop-place-preserved
loop-place-preserved g c =
    let items : c.push.new.self.items ≡ c.loop-place.readers.items ++ c.at-seat.result ∷ [] = search rules in
    let one : c.at-seat.result ≡ new_seat c.loop-place.right.table_id c.loop-place.place = search rules in
    let port : c.split_seat-part.new.seat.table_id ≡ c.loop-place.right.table_id = search rules in
    record {
      port = search rules;
      parted = search rules;
      readers = items ∙ one_more c.loop-place.right.table_id _ c.loop-place.place _ _ c.loop-place.invariant.readers one port;
    }

pub unreachable-requires : goal.unreachable-requires
unreachable-requires g c =
    let end = c.loop-place-test.false in let bound = c.loop-place.auto.place-end in
    let size : vec_len c.loop-place.readers ≡ length c.loop-place.readers.items = search rules in
    let all : length c.loop-place.readers.items ≡ c.loop-place.place = ap (λ (l : List ReaderSeated). length l) c.loop-place.invariant.readers ∙ count_of _ _ in
    c.in_default.ensures.1 (omega arith)
