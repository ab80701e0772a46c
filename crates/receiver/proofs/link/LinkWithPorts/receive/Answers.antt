use Rattle.std.proofs.Common.{refl, sym}
use Rattle.es_base.specs.Past.{arrived, event_of}
use Rattle.receiver.proofs.link.LinkWithPorts.receive.Goals as goal

pub receive-verdict-requires-clause-passed : goal.receive-verdict-requires-clause-passed
receive-verdict-requires-clause-passed g c =
    let link = c.self.inside.link in
    let frame = c.args.frame.now in
    c.check-passed.ensures link.core.settings link.core.past (arrived c.args.net c.args.now frame.whole.now) c.self.invariant refl (sym frame.sequence_number_is)

pub invariant_of-self : goal.invariant_of-self
invariant_of-self g c =
    let link = c.self.inside.link in
    let frame = c.args.frame.now in
    let a = arrived c.args.net c.args.now frame.whole.now in
    let takes = c.receive-verdict.ensures.takes in
    rw takes.core (c.note.ensures link.core.settings link.core.past (event_of a takes.room c.receive-verdict.result) c.self.invariant refl (sym frame.sequence_number_is) refl refl)
