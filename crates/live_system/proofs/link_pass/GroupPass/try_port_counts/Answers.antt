use Rattle.std.proofs.Common.{List}
use Rattle.network_calls.specs.Passes.{DoesAt}
use Rattle.live_system.specs.Calls.{LiveLink}
use Rattle.live_system.specs.Groups.{HasLinkAt, is_any, pass_at}
use Rattle.live_system.specs.Health.{TellsOfPort}
use Rattle.live_system.proofs.Groups.{counts_there, done_as, finds_link, leaves_at, link_found, lists_at, same_lock}
use Rattle.live_system.proofs.Meets.{known_still, met_at, leaves_reader, no_call_of_reader}
use Rattle.live_system.proofs.link_pass.GroupPass.try_port_counts.Goals as goal

pub try_visit-requires-clause-lock : goal.try_visit-requires-clause-lock
try_visit-requires-clause-lock c =
    let s = c.self.inside in
    same_lock s.net s.pass s.counts.items c.args.lock.now c.args.index is_any (rw (← c.self.view_is) at c.requires)

pub try_visit-requires-clause-callable : goal.try_visit-requires-clause-callable
try_visit-requires-clause-callable c = λ lists found finds p is.
    let s = c.self.inside in
    let knows = rw (← c.self.view_is) at c.requires in
    let link = finds_link s.net s.pass s.counts.items c.args.lock.now c.args.index is_any knows lists found finds in
    let has : HasLinkAt found c.args.index is_any = (link.0, link.1, tt) in
    rw is has

pub try_visit-requires-clause-keeps : goal.try_visit-requires-clause-keeps
try_visit-requires-clause-keeps c lists found left answer finds did =
    let s = c.self.inside in
    let done = done_as (λ (olds : List LiveLink) (news : List LiveLink). DoesAt (λ (old : LiveLink) (new : LiveLink). TellsOfPort c.args.port answer old new) olds c.args.index news) did.shows did.leaves did.met in
    leaves_at s.pass lists found left c.args.index (λ (old : LiveLink) (new : LiveLink). TellsOfPort c.args.port answer old new) finds done
    (leaves_reader done.before done.after done.does.link (pass_at s.pass c.args.index) (lists_at lists c.args.index) (link_found s.pass lists found finds c.args.index done.before done.there))

pub invariant_of-self-2 : goal.invariant_of-self-2
invariant_of-self-2 c =
    let s = c.self.inside in
    let visit = c.in_ok-counts.ensures.visited in
    let done = done_as (λ (olds : List LiveLink) (news : List LiveLink). DoesAt (λ (old : LiveLink) (new : LiveLink). TellsOfPort c.args.port c.in_ok-counts.counts old new) olds c.args.index news) visit.does.shows visit.does.leaves visit.does.met in
    let still = (known_still s.net _ s.pass _ visit c.args.index (λ (old : LiveLink) (new : LiveLink). TellsOfPort c.args.port c.in_ok-counts.counts old new) done s.counts.items c.self.invariant.0
    (no_call_of_reader done.before done.after done.does.link (pass_at s.pass c.args.index) (lists_at visit.lists c.args.index) (link_found s.pass visit.lists visit.found visit.finds c.args.index done.before done.there))) in
    (still.0, rw still.1 c.self.invariant.1)

pub returns-clause-pass : goal.returns-clause-pass
returns-clause-pass c =
    let s = c.self.inside in
    let visit = c.in_ok-counts.ensures.visited in
    let done = done_as (λ (olds : List LiveLink) (news : List LiveLink). DoesAt (λ (old : LiveLink) (new : LiveLink). TellsOfPort c.args.port c.in_ok-counts.counts old new) olds c.args.index news) visit.does.shows visit.does.leaves visit.does.met in
    rw (← c.self.view_is) ((known_still s.net _ s.pass _ visit c.args.index (λ (old : LiveLink) (new : LiveLink). TellsOfPort c.args.port c.in_ok-counts.counts old new) done s.counts.items c.self.invariant.0
    (no_call_of_reader done.before done.after done.does.link (pass_at s.pass c.args.index) (lists_at visit.lists c.args.index) (link_found s.pass visit.lists visit.found visit.finds c.args.index done.before done.there))).1)

pub returns-clause-counts : goal.returns-clause-counts
returns-clause-counts c =
    let s = c.self.inside in
    let visit = c.in_ok-counts.ensures.visited in
    let done = done_as (λ (olds : List LiveLink) (news : List LiveLink). DoesAt (λ (old : LiveLink) (new : LiveLink). TellsOfPort c.args.port c.in_ok-counts.counts old new) olds c.args.index news) visit.does.shows visit.does.leaves visit.does.met in
    let known = counts_there s.net s.pass s.counts.items c.args.lock.now c.args.index is_any (rw (← c.self.view_is) at c.requires) in
    rw (← c.self.view_is) (met_at s.net _ s.pass _ visit c.args.index (λ (old : LiveLink) (new : LiveLink). TellsOfPort c.args.port c.in_ok-counts.counts old new) done s.counts.items c.self.invariant.0 known.0 known.1)
