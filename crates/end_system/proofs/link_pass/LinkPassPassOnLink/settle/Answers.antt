use Rattle.link_lock.specs.Lists.{both_lists}
use Rattle.link_receiver.specs.Link.{past_of}
use Rattle.network_calls.proofs.Counting.{counted_of_both}
use Rattle.end_system.specs.Calls.{events_of}
use Rattle.end_system.proofs.Pinned.{turned}
use Rattle.end_system.proofs.link_pass.LinkPassPassOnLink.settle.Goals as goal

pub returns-clause-link : goal.returns-clause-link
returns-clause-link c =
    let a = c.a.inside.pass in
    let b = c.b.inside.pass in
    let link = c.settle.result in
    rw (c.state.view_is, ← c.a.view_is, ← c.b.view_is) (record {
      opened = c.settle.ensures.fixed;
      agrees = c.settle.ensures.agrees;
      counted = λ net kind is. counted_of_both (λ user. (both_lists a.list b.list user).calls) (past_of link) (events_of link) net kind (turned link) c.settle.ensures.agrees.calls;
    })
