use Rattle.std.proofs.Common.{List, Some, ap, refl}
use Rattle.network_calls.specs.Passes.{DoesAt}
use Rattle.receiver.specs.declared.port.PortOutlet.{PortOutlet}
use Rattle.receiver.specs.Meetings.{HasOutletAt}
use Rattle.receiver.specs.Port.{IsQueueOf}
use Rattle.live_system.specs.Calls.{LiveLink}
use Rattle.live_system.specs.Groups.{HasLinkAt, pass_at}
use Rattle.live_system.specs.Meetings.{MeetsTaker}
use Rattle.live_system.proofs.Groups.{counts_there, done_as, finds_link, leaves_at, link_found, lists_at, same_lock}
use Rattle.live_system.proofs.Meets.{finds_queue, known_still, met_at, leaves_still, no_call}
use Rattle.live_system.proofs.link_pass.GroupPass.meet_taker.Goals as goal

pub visit-requires-clause-lock : goal.visit-requires-clause-lock
visit-requires-clause-lock g c =
    let s = c.self.inside in
    same_lock s.net s.pass s.counts.items c.args.lock.now c.args.index (λ (link : LiveLink). HasOutletAt link c.args.port (λ (outlet : PortOutlet). IsQueueOf outlet c.args.taker)) (rw (← c.self.view_is) at c.requires)

pub visit-requires-clause-callable : goal.visit-requires-clause-callable
visit-requires-clause-callable g c = λ lists found finds p is.
    let s = c.self.inside in
    let knows = rw (← c.self.view_is) at c.requires in
    let link = finds_link s.net s.pass s.counts.items c.args.lock.now c.args.index (λ (link : LiveLink). HasOutletAt link c.args.port (λ (outlet : PortOutlet). IsQueueOf outlet c.args.taker)) knows lists found finds in
    let has : HasLinkAt found c.args.index (λ (link : LiveLink). HasOutletAt link c.args.port (λ (outlet : PortOutlet). IsQueueOf outlet c.args.taker)) = (link.0, link.1, finds_queue c.args.taker link.0 knows.3 _ c.args.port (ap (λ (l : LiveLink). Some l) link.2) refl knows.5) in
    rw is has

pub visit-requires-clause-keeps : goal.visit-requires-clause-keeps
visit-requires-clause-keeps g c lists found left answer finds did =
    let s = c.self.inside in
    let done = done_as (λ (olds : List LiveLink) (news : List LiveLink). DoesAt (λ (old : LiveLink) (new : LiveLink). MeetsTaker c.args.port c.args.taker answer old new) olds c.args.index news) did.shows did.leaves did.met in
    leaves_at s.pass lists found left c.args.index (λ (old : LiveLink) (new : LiveLink). MeetsTaker c.args.port c.args.taker answer old new) finds done
    (leaves_still done.before done.after done.does.core done.does.received done.does.outlets (pass_at s.pass c.args.index) (lists_at lists c.args.index) (link_found s.pass lists found finds c.args.index done.before done.there))

pub invariant_of-self : goal.invariant_of-self
invariant_of-self g c =
    let s = c.self.inside in
    let visit = c.visit.ensures in
    let done = done_as (λ (olds : List LiveLink) (news : List LiveLink). DoesAt (λ (old : LiveLink) (new : LiveLink). MeetsTaker c.args.port c.args.taker c.visit.result old new) olds c.args.index news) visit.does.shows visit.does.leaves visit.does.met in
    let still = (known_still s.net _ s.pass _ visit c.args.index (λ (old : LiveLink) (new : LiveLink). MeetsTaker c.args.port c.args.taker c.visit.result old new) done s.counts.items c.self.invariant.0
    (no_call done.before done.after done.does.core done.does.received done.does.outlets (pass_at s.pass c.args.index) (lists_at visit.lists c.args.index) (link_found s.pass visit.lists visit.found visit.finds c.args.index done.before done.there))) in
    (still.0, rw still.1 c.self.invariant.1)

pub returns-clause-pass : goal.returns-clause-pass
returns-clause-pass g c =
    let s = c.self.inside in
    let visit = c.visit.ensures in
    let done = done_as (λ (olds : List LiveLink) (news : List LiveLink). DoesAt (λ (old : LiveLink) (new : LiveLink). MeetsTaker c.args.port c.args.taker c.visit.result old new) olds c.args.index news) visit.does.shows visit.does.leaves visit.does.met in
    rw (← c.self.view_is) ((known_still s.net _ s.pass _ visit c.args.index (λ (old : LiveLink) (new : LiveLink). MeetsTaker c.args.port c.args.taker c.visit.result old new) done s.counts.items c.self.invariant.0
    (no_call done.before done.after done.does.core done.does.received done.does.outlets (pass_at s.pass c.args.index) (lists_at visit.lists c.args.index) (link_found s.pass visit.lists visit.found visit.finds c.args.index done.before done.there))).1)

pub returns-clause-meets : goal.returns-clause-meets
returns-clause-meets g c =
    let s = c.self.inside in
    let visit = c.visit.ensures in
    let done = done_as (λ (olds : List LiveLink) (news : List LiveLink). DoesAt (λ (old : LiveLink) (new : LiveLink). MeetsTaker c.args.port c.args.taker c.visit.result old new) olds c.args.index news) visit.does.shows visit.does.leaves visit.does.met in
    let known = counts_there s.net s.pass s.counts.items c.args.lock.now c.args.index (λ (link : LiveLink). HasOutletAt link c.args.port (λ (outlet : PortOutlet). IsQueueOf outlet c.args.taker)) (rw (← c.self.view_is) at c.requires) in
    rw (← c.self.view_is) (met_at s.net _ s.pass _ visit c.args.index (λ (old : LiveLink) (new : LiveLink). MeetsTaker c.args.port c.args.taker c.visit.result old new) done s.counts.items c.self.invariant.0 known.0 known.1)
