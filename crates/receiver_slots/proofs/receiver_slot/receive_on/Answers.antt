use Rattle.std.proofs.Common.{rules, ◌≡◌}
use Rattle.es_base.specs.Past.{arrived}
use Rattle.receiver.specs.Port.{HasSpacePort, RefusesPort}
use Rattle.receiver.specs.Receiver.{RepliesIfKnown, RepliesIfRefused}
use Rattle.receiver_slots.proofs.receiver_slot.receive_on.Goals as goal

pub returns : goal.returns
returns c =
    let same : c.inside.inside.opened ≡ c.args.inside.now.opened = search rules in
    let known : RepliesIfKnown HasSpacePort c.args.inside.now.opened c.receive.new.self (arrived c.args.net c.args.now c.args.frame.now) c.receive.result = rw (← same) c.receive.ensures.known in
    let refused : RepliesIfRefused RefusesPort c.args.inside.now.opened c.receive.new.self (arrived c.args.net c.args.now c.args.frame.now) c.receive.result = rw (← same) c.receive.ensures.refused in
    (c.receive.result, search rules, known, refused, search rules, search rules)
