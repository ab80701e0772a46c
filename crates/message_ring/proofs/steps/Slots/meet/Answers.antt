use Rattle.std.proofs.Common.{◌≡◌, rules}
use Rattle.message_ring.specs.Plays.{putter_in, taker_in, told_put, told_taken}
use Rattle.message_ring.specs.declared.rule.SeatView.TheVariants.{Meets, Puts, Spent}
use Rattle.message_ring.proofs.Opens.{lend_at, meet_at, part_at, regain_at}
use Rattle.message_ring.proofs.Turns.{learn_at}
use Rattle.message_ring.proofs.steps.Slots.meet.Goals as goal

pub split_seat-lent-requires : goal.split_seat-lent-requires
split_seat-lent-requires c = (search rules, search rules, lend_at _ _ _ c.requires.putter)

pub join_seat-requires : goal.join_seat-requires
join_seat-requires c =
    let lent : c.split_seat-lent.result.me.0 ≡ Puts (putter_in c.args.putter.now.me.0) = search rules in
    (search rules, search rules, search rules, search rules, meet_at _ _ _ _ _ _ c.requires.taker.0 lent)

pub load-requires : goal.load-requires
load-requires c =
    let is : c.join_seat.new.seat.me.0 ≡ Meets (putter_in c.args.putter.now.me.0) (taker_in c.args.taker.now.me.0) = search rules in
    (search rules, search rules, learn_at _ _ _ _ _ is c.requires.taker.1)

pub split_seat-back-requires : goal.split_seat-back-requires
split_seat-back-requires c =
    let p = putter_in c.args.putter.now.me.0 in
    let t = taker_in c.args.taker.now.me.0 in
    let is : c.load.new.seat.me.0 ≡ Meets (told_taken p t.taken) (told_put t p) = search rules in
    (search rules, search rules, part_at _ _ _ _ is)

pub join_seat-requires-2 : goal.join_seat-requires-2
join_seat-requires-2 c =
    let p = putter_in c.args.putter.now.me.0 in
    let t = taker_in c.args.taker.now.me.0 in
    let spent : c.split_seat-lent.new.seat.me.0 ≡ Spent = search rules in
    let back : c.split_seat-back.result.me.0 ≡ Puts (told_taken p t.taken) = search rules in
    (search rules, search rules, search rules, search rules, regain_at _ _ _ _ _ spent back)
