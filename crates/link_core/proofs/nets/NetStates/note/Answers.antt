use Rattle.std.proofs.Common.{refl}
use Rattle.link_core.proofs.Times.{time_on_a, time_on_b}
use Rattle.link_core.proofs.Numbers.{counted_more}
use Rattle.link_core.proofs.nets.NetStates.note.Goals as goal

pub returns-in-A : goal.returns-in-A
returns-in-A c = λ o past e holds net number time verdict. record {
  a = rw (net, c.in-A.is, number) (c.note.ensures.sequence _ _ holds.a);
  b = rw (net, c.in-A.is) holds.b;
  times = rw (net, c.in-A.is, time) (time_on_a c.args.self.now (record { a = c.note.new.self; b = c.args.self.now.b; tally = c.add.new.self }) past c.args.now holds.times c.note.ensures.latest refl);
  counted = counted_more c.args.self.now.tally _ o past e holds.counted (rw (net, verdict, ← c.kind.ensures.kind) c.add.ensures);
}

pub returns-in-B : goal.returns-in-B
returns-in-B c = λ o past e holds net number time verdict. record {
  a = rw (net, c.in-B.is) holds.a;
  b = rw (net, c.in-B.is, number) (c.note-in-B.ensures.sequence _ _ holds.b);
  times = rw (net, c.in-B.is, time) (time_on_b c.args.self.now (record { a = c.args.self.now.a; b = c.note-in-B.new.self; tally = c.add.new.self }) past c.args.now holds.times c.note-in-B.ensures.latest refl);
  counted = counted_more c.args.self.now.tally _ o past e holds.counted (rw (net, verdict, ← c.kind.ensures.kind) c.add.ensures);
}
