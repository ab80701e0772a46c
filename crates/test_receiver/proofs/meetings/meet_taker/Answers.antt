use Rattle.std.proofs.Common.{◌∙◌, sym}
use Rattle.es_base.specs.declared.place.Net.TheVariants as nets
use Rattle.es_base.specs.Past.{arrived}
use Rattle.receiver.specs.Meetings.{HasOutlet}
use Rattle.receiver.specs.Port.{IsQueueOf}
use Rattle.receiver.specs.Run.{received}
use Rattle.receiver.specs.Taking.{HandsTaker}
use Rattle.receiver.proofs.HandedOut.{taker_stays}
use Rattle.receiver.proofs.Handed.{of_their_outlets, taker_of_its_queue}
use Rattle.test_receiver.proofs.meetings.meet_taker.Goals as goal

pub meet_taker-requires : goal.meet_taker-requires
meet_taker-requires g c =
    let opened = c.opened-opened.result in
    let place = c.expect-place.result in
    let of_it = of_their_outlets HandsTaker IsQueueOf taker_of_its_queue _ opened.receiver opened.ends.items c.take_taker.new.self.ends.items c.take_taker.result
    c.take_taker.ensures.taker c.opened-opened.ensures in
    let found = sym c.place_of.ensures ∙ c.expect-place.ensures in
    let was : HasOutlet opened.receiver place.0 place.1 (λ outlet. IsQueueOf outlet c.expect-taker.result) = rw (found, c.expect-taker.ensures) at of_it.1 in
    let has : HasOutlet c.take_taker.new.self.receiver place.0 place.1 (λ outlet. IsQueueOf outlet c.expect-taker.result) = rw c.take_taker.ensures.receiver was in
    taker_stays (received (arrived nets.A 1000 c.as_slice.result.now) c.receive-reply.result) c.take_taker.new.self.receiver c.receive-reply.new.self c.receive-reply.ensures.replies place.0 place.1 c.expect-taker.result has
