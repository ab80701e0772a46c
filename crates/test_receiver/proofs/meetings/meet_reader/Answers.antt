use Rattle.std.proofs.Common.{◌∙◌, sym}
use Rattle.es_base.specs.declared.place.Net.TheVariants as nets
use Rattle.es_base.specs.Past.{arrived}
use Rattle.receiver.specs.Meetings.{HasOutlet}
use Rattle.receiver.specs.Port.{IsPortOf}
use Rattle.receiver.specs.Run.{received}
use Rattle.receiver.specs.Taking.{HandsReader}
use Rattle.receiver.proofs.HandedOut.{reader_stays}
use Rattle.receiver.proofs.Handed.{of_their_outlets, reader_of_its_port}
use Rattle.test_receiver.proofs.meetings.meet_reader.Goals as goal

pub meet_reader-requires : goal.meet_reader-requires
meet_reader-requires g c =
    let opened = c.opened-opened.result in
    let place = c.expect-place.result in
    let of_it = of_their_outlets HandsReader IsPortOf reader_of_its_port _ opened.receiver opened.ends.items c.take_reader.new.self.ends.items c.take_reader.result
    c.take_reader.ensures.reader c.opened-opened.ensures in
    let found = sym c.place_of.ensures ∙ c.expect-place.ensures in
    let was : HasOutlet opened.receiver place.0 place.1 (λ outlet. IsPortOf outlet c.expect-reader.result) = rw (found, c.expect-reader.ensures) at of_it.1 in
    let has : HasOutlet c.take_reader.new.self.receiver place.0 place.1 (λ outlet. IsPortOf outlet c.expect-reader.result) = rw c.take_reader.ensures.receiver was in
    reader_stays (received (arrived nets.A 1000 c.as_slice.result.now) c.receive-reply.result) c.take_reader.new.self.receiver c.receive-reply.new.self c.receive-reply.ensures.replies place.0 place.1 c.expect-reader.result has
