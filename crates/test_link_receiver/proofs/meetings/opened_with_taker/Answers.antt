use Rattle.std.proofs.lemmas.List.Elements.{All-pop}
use Rattle.link_receiver.specs.Ends.{IsOfItsPort}
use Rattle.test_link_receiver.proofs.meetings.opened_with_taker.Goals as goal

pub returns : goal.returns
returns g c =
    let channels = c.opened-state.result.0.channels in
    let popped = All-pop (IsOfItsPort channels) _ _ _ c.pop.ensures.items c.opened-state.ensures in
    c.taker_in-taker.ensures channels (rw c.expect-end.ensures at popped.1)
