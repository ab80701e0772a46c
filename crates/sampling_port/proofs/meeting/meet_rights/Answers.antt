use Rattle.std.proofs.Common.{◌≡◌, rules}
use Rattle.sampling_port.specs.Rule.{slots_for}
use Rattle.sampling_port.specs.Plays.{learns, place_at, reader_of, writer_of}
use Rattle.sampling_port.specs.declared.rule.SeatView.TheVariants.{Meets, Spent, Writes}
use Rattle.sampling_port.proofs.Opens.{lend_at, meet_at, part_again_at, regain_at, tell_at}
use Rattle.sampling_port.proofs.meeting.meet_rights.Goals as goal

pub split_seat-lent-requires : goal.split_seat-lent-requires
split_seat-lent-requires g c = (search rules, search rules, lend_at g.row.READERS (slots_for g.row.READERS) _ _ _ c.requires.writer)

pub join_seat-requires : goal.join_seat-requires
join_seat-requires g c =
    let lent : c.split_seat-lent.result.me.0 ≡ Writes (writer_of c.args.writer.now.me.0) = search rules in
    (search rules, search rules, search rules, search rules, meet_at g.row.READERS (slots_for g.row.READERS) _ _ _ _ _ _ _ c.requires.reader lent)

pub load-requires : goal.load-requires
load-requires g c =
    let is : c.join_seat.new.seat.me.0 ≡ Meets (writer_of c.args.writer.now.me.0) (place_at c.args.reader.now.me.0) (reader_of c.args.reader.now.me.0) = search rules in
    (search rules, search rules, tell_at g.row.READERS (slots_for g.row.READERS) _ _ _ _ _ _ is c.requires.idle)

pub split_seat-back-requires : goal.split_seat-back-requires
split_seat-back-requires g c =
    let is : c.load.new.seat.me.0 ≡ Meets (writer_of c.args.writer.now.me.0) (place_at c.args.reader.now.me.0) (learns (reader_of c.args.reader.now.me.0) (writer_of c.args.writer.now.me.0).view.published) = search rules in
    (search rules, search rules, part_again_at g.row.READERS (slots_for g.row.READERS) _ _ _ _ _ is)

pub join_seat-requires-2 : goal.join_seat-requires-2
join_seat-requires-2 g c =
    let spent : c.split_seat-lent.new.seat.me.0 ≡ Spent = search rules in
    let back : c.split_seat-back.result.me.0 ≡ Writes (writer_of c.args.writer.now.me.0) = search rules in
    (search rules, search rules, search rules, search rules, regain_at g.row.READERS (slots_for g.row.READERS) _ _ _ _ _ spent back)
