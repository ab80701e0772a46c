use Rattle.std.proofs.Common.{rules, ◌≡◌, List, [], ◌∷◌, ◌++◌, length, map, ap, sym, ◌∙◌, append-nil, append_assoc, lit<}
use Rattle.std.proofs.lemmas.List.{length-map, map-append, nil_from_length}
use Rattle.std.specs.Array.Iter.{array_into_iter_items}
use Rattle.std.specs.Vec.{vec_len}
use Rattle.sampling_port.specs.Ends.{ReaderEnd, end_of_reader, new_readers}
use Rattle.sampling_port.specs.Seats.{ReaderSeated, WriterSeated, new_seats}
use Rattle.sampling_port.proofs.Opens.{count_of, each_is_idle}
use Rattle.sampling_port.proofs.open.open_port.Goals as goal

pub from_seat-requires : goal.from_seat-requires
from_seat-requires g c =
    let more : array_into_iter_items c.loop-seat.seat-iterator ≡ c.in-Some.seat ∷ array_into_iter_items c.next.new.self = search rules in
    let is : c.loop-seat.yielded ++ c.in-Some.seat ∷ array_into_iter_items c.next.new.self ≡ new_seats c.writer.inside.right.table_id g.row.READERS = ap (λ (l : List ReaderSeated). c.loop-seat.yielded ++ l) (sym more) ∙ c.loop-seat.invariant.rest in
    (lit< tt, (lit< tt, each_is_idle _ g.row.READERS _ _ c.in-Some.seat is))

pub loop-seat-init : goal.loop-seat-init
loop-seat-init g c =
    let port : c.in_ok-writer.writer.port ≡ c.writer.inside.right.table_id = sym (ap (λ (z : WriterSeated). z.port) c.writer.view_is) in
    let seats : c.in_ok-writer.seats ≡ new_seats c.in_ok-writer.writer.port g.row.READERS = search rules in
    record {
      can_next = tt;
      finite = tt;
      readers = c.in_ok-readers.ensures.items;
      rest = c.into_iter-seat-iterator.ensures.into_iter_gives.0 ∙ seats ∙ ap (λ z. new_seats z g.row.READERS) port;
    }

pub loop-seat-preserved : goal.loop-seat-preserved
loop-seat-preserved g c =
    let more : array_into_iter_items c.loop-seat.seat-iterator ≡ c.in-Some.seat ∷ array_into_iter_items c.next.new.self = search rules in
    let items : c.push.new.self.items ≡ c.loop-seat.readers.items ++ end_of_reader c.in-Some.seat ∷ [] = search rules in
    record {
      can_next = tt;
      finite = tt;
      readers = items ∙ ap (λ (l : List ReaderEnd). l ++ end_of_reader c.in-Some.seat ∷ []) c.loop-seat.invariant.readers ∙ sym (map-append end_of_reader c.loop-seat.yielded (c.in-Some.seat ∷ []));
      rest = append_assoc c.loop-seat.yielded (c.in-Some.seat ∷ []) _ ∙ ap (λ (l : List ReaderSeated). c.loop-seat.yielded ++ l) (sym more) ∙ c.loop-seat.invariant.rest;
    }

pub unreachable-requires : goal.unreachable-requires
unreachable-requires g c =
    let none : array_into_iter_items c.loop-seat.seat-iterator ≡ [] = nil_from_length _ (search rules) in
    let all : c.loop-seat.yielded ≡ new_seats c.writer.inside.right.table_id g.row.READERS = sym (append-nil c.loop-seat.yielded) ∙ ap (λ (l : List ReaderSeated). c.loop-seat.yielded ++ l) (sym none) ∙ c.loop-seat.invariant.rest in
    let size : vec_len c.loop-seat.readers ≡ length c.loop-seat.readers.items = search rules in
    let count : length c.loop-seat.readers.items ≡ g.row.READERS = ap (λ (l : List ReaderEnd). length l) c.loop-seat.invariant.readers ∙ length-map c.loop-seat.yielded end_of_reader
    ∙ ap (λ (l : List ReaderSeated). length l) all ∙ count_of _ g.row.READERS in
    c.in_default.ensures.1 (size ∙ count)

pub returns-clause-readers : goal.returns-clause-readers
returns-clause-readers g c =
    let none : array_into_iter_items c.loop-seat.seat-iterator ≡ [] = nil_from_length _ (search rules) in
    let all : c.loop-seat.yielded ≡ new_seats c.writer.inside.right.table_id g.row.READERS = sym (append-nil c.loop-seat.yielded) ∙ ap (λ (l : List ReaderSeated). c.loop-seat.yielded ++ l) (sym none) ∙ c.loop-seat.invariant.rest in
    let port : c.writer.inside.right.table_id ≡ c.from_seat-2.result.port = search rules in
    let items : c.in-Ok.readers ≡ c.loop-seat.readers.items = search rules in
    items ∙ c.loop-seat.invariant.readers ∙ ap (λ (l : List ReaderSeated). map end_of_reader l) all ∙ ap (λ z. new_readers z g.row.READERS) port
