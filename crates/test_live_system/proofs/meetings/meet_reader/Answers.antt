use Rattle.std.proofs.Common.{◌∙◌, sym}
use Rattle.receiver.specs.declared.port.PortOutlet.{PortOutlet}
use Rattle.receiver.specs.Meetings.{HasOutlet}
use Rattle.receiver.specs.Port.{IsPortOf}
use Rattle.receiver.specs.Taking.{HandsReader}
use Rattle.receiver.proofs.HandedOut.{handed_out}
use Rattle.receiver.proofs.Handed.{of_their_outlets, reader_of_its_port}
use Rattle.live_system.specs.System.{KnowLinks}
use Rattle.live_system.proofs.Knowing.{knows_outlet, knows_still}
use Rattle.test_live_system.proofs.meetings.meet_reader.Goals as goal

pub meet_reader-reader-requires-clause-outlet : goal.meet_reader-reader-requires-clause-outlet
meet_reader-reader-requires-clause-outlet g c =
    let start = c.opened-opened.result in
    let links = c.opened-opened.ensures.links in
    let opened = links.1.opened in
    let place = c.expect-place.result in
    let are = handed_out links.0 start.system.config opened start.ends.items links.1.new in
    let of_it = of_their_outlets HandsReader IsPortOf reader_of_its_port _ opened start.ends.items c.take_reader.new.self.ends.items c.take_reader.result c.take_reader.ensures.reader are in
    let found = sym c.place_of.ensures ∙ c.expect-place.ensures in
    let was : HasOutlet opened place.0 place.1 (λ outlet. IsPortOf outlet c.expect-reader.result) = rw (found, c.expect-reader.ensures) at of_it.1 in
    let know : KnowLinks c.take_reader.new.self.a.links opened.links = rw c.take_reader.ensures.passes.0 links.1.known_a in
    let later = knows_still _ c.take_reader.new.self.a c.receive-reply.new.pass 1000 _ c.receive-reply.result opened.links c.receive-reply.ensures.replies know in
    knows_outlet (λ (outlet : PortOutlet). IsPortOf outlet c.expect-reader.result) c.receive-reply.new.pass.links opened place.0 place.1 later was
