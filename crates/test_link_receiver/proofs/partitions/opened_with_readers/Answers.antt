use Rattle.std.proofs.lemmas.List.Elements.{All-pop}
use Rattle.link_receiver.specs.Ends.{IsOfItsPort}
use Rattle.test_link_receiver.proofs.partitions.opened_with_readers.Goals as goal

pub returns : goal.returns
returns g c =
    let channels = c.opened-state.result.0.channels in
    let first = All-pop (IsOfItsPort channels) _ _ _ c.pop.ensures.items c.opened-state.ensures in
    let second = All-pop (IsOfItsPort channels) _ _ _ c.pop-2.ensures.items first.0 in
    c.readers_in-readers.ensures channels (rw c.expect-end.ensures at second.1)
