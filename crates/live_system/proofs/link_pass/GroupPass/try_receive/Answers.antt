use Rattle.std.proofs.Common.{◌≡◌, Some, ◌∙◌, ap, ℕ, refl, rules, sym}
use Rattle.std.specs.List.{slice_get}
use Rattle.std.proofs.lemmas.Option.{slice_get_read, slice_get_within}
use Rattle.es_base.specs.declared.verdict.Verdict.{Verdict}
use Rattle.es_base.specs.Frame.{IsFrame, link_number_of}
use Rattle.es_base.specs.Past.{arrived}
use Rattle.link_rules.specs.Integrity.{passes}
use Rattle.live_system.specs.Burst.{CountsOne}
use Rattle.live_system.specs.Calls.{LiveLink}
use Rattle.live_system.specs.Groups.{HasLinkAt}
use Rattle.live_system.proofs.Checks.{checked_call, checks_within, passes_by, stand_found}
use Rattle.live_system.proofs.Groups.{counts_there, done_as, finds_link, same_lock}
use Rattle.live_system.proofs.Receives.{TakesOne, calls_after, group_after, may_leave}
use Rattle.live_system.proofs.link_pass.GroupPass.try_receive.Goals as goal

pub try_visit-requires-clause-lock : goal.try_visit-requires-clause-lock
try_visit-requires-clause-lock c =
    let s = c.self.inside in same_lock s.net s.pass s.counts.items c.args.lock.now c.args.index (λ (link : LiveLink). link_number_of c.args.frame.now.whole.now ≡ link.core.settings.vl.0) (rw (← c.self.view_is) at c.requires)

pub try_visit-requires-clause-callable : goal.try_visit-requires-clause-callable
try_visit-requires-clause-callable c = λ lists found finds p is.
    let s = c.self.inside in
    let octets = c.args.frame.now.whole.now in
    let knows = rw (← c.self.view_is) at c.requires in
    let link = finds_link s.net s.pass s.counts.items c.args.lock.now c.args.index (λ (link : LiveLink). link_number_of octets ≡ link.core.settings.vl.0) knows lists found finds in
    let frame : IsFrame octets = search rules in
    let has : HasLinkAt found c.args.index (λ (l : LiveLink). link_number_of octets ≡ l.core.settings.vl.0) = (link.0, link.1, knows.5 ∙ ap (λ (l : LiveLink). l.core.settings.vl.0) (sym link.2)) in
    let stands = stand_found s.net s.pass s.counts.items s.checks.items c.self.invariant.0.user c.self.invariant.1 lists found finds in
    let there = slice_get_read s.checks.items _ c.args.index c.index.result.now refl (checks_within s.net s.pass s.counts.items s.checks.items c.self.invariant.1 c.args.index knows.0 knows.1) c.index.ensures in
    let passes : (l : LiveLink) → slice_get found c.args.index ≡ Some l → c.check-passed.result ≡ passes l.core.settings l.core.past (arrived s.net c.args.now octets) =
    passes_by s.net found s.checks.items c.args.index c.args.now octets c.check-passed.result c.index.result.now stands there (λ window numbers is_kept. rw (← c.args.frame.now.sequence_number_is) (c.check-passed.ensures window numbers is_kept)) in
    (frame, rw is (has, passes))

pub try_visit-requires-clause-keeps : goal.try_visit-requires-clause-keeps
try_visit-requires-clause-keeps c lists found left answer finds did =
    let s = c.self.inside in
    let octets = c.args.frame.now.whole.now in
    may_leave s.net s.pass lists found left c.args.index c.args.now octets answer c.self.invariant.0.user finds (done_as (TakesOne s.net c.args.index c.args.now octets answer) did.shows did.leaves did.met)

pub index-requires : goal.index-requires
index-requires c =
    let s = c.self.inside in
    let knows = rw (← c.self.view_is) at c.requires in
    let within = checks_within s.net s.pass s.counts.items s.checks.items c.self.invariant.1 c.args.index knows.0 knows.1 in
    search rules

pub index_mut-requires : goal.index_mut-requires
index_mut-requires c =
    let s = c.self.inside in
    let knows = rw (← c.self.view_is) at c.requires in
    let within = checks_within s.net s.pass s.counts.items s.checks.items c.self.invariant.1 c.args.index knows.0 knows.1 in
    search rules

pub index_mut-requires-2 : goal.index_mut-requires-2
index_mut-requires-2 c =
    let s = c.self.inside in
    let known = counts_there s.net s.pass s.counts.items c.args.lock.now c.args.index (λ (link : LiveLink). link_number_of c.args.frame.now.whole.now ≡ link.core.settings.vl.0) (rw (← c.self.view_is) at c.requires) in
    let within = slice_get_within s.counts.items c.args.index known.0 known.1 in
    search rules

pub invariant_of-self-2 : goal.invariant_of-self-2
invariant_of-self-2 c =
    let s = c.self.inside in
    let visit = c.in_ok-place.ensures.visited in
    let octets = c.args.frame.now.whole.now in
    let answer : ℕ × Verdict = (c.in_ok-place.place, c.in_ok-place.verdict) in
    let done = done_as (TakesOne s.net c.args.index c.args.now octets answer) visit.does.shows visit.does.leaves visit.does.met in
    let known = counts_there s.net s.pass s.counts.items c.args.lock.now c.args.index (λ (link : LiveLink). link_number_of octets ≡ link.core.settings.vl.0) (rw (← c.self.view_is) at c.requires) in
    let was = slice_get_read s.counts.items _ c.args.index c.index_mut-2.result.now refl (slice_get_within s.counts.items c.args.index known.0 known.1) c.index_mut-2.ensures.value in
    let one : CountsOne s.net c.index_mut-2.result.now answer.1 c.add.new.self = record { vl = c.add.ensures.vl; number = c.add.ensures.number; tally = c.add.ensures.tally } in
    let knows = rw (← c.self.view_is) at c.requires in
    let there = slice_get_read s.checks.items _ c.args.index c.index_mut.result.now refl (checks_within s.net s.pass s.counts.items s.checks.items c.self.invariant.1 c.args.index knows.0 knows.1) c.index_mut.ensures.value in
    let called = calls_after s.net s.pass _ s.counts.items c.self.invariant.0 _ visit c.args.index c.args.now octets answer done c.index_mut-2.result.now c.add.new.self was one in (
      group_after s.net s.pass _ s.counts.items c.self.invariant.0 _ visit c.args.index c.args.now octets answer done c.index_mut-2.result.now c.add.new.self was one,
      checked_call _ _ s.checks.items c.args.index called.0 c.args.now octets answer.1 c.index_mut.result.now c.note.new.self c.self.invariant.1 called.2 there
          (λ window numbers is. rw (← c.args.frame.now.sequence_number_is) (c.note.ensures.sequence window numbers is)) c.note.ensures.latest,
    )

pub returns-clause-calls : goal.returns-clause-calls
returns-clause-calls c =
    let s = c.self.inside in
    let visit = c.in_ok-place.ensures.visited in
    let octets = c.args.frame.now.whole.now in
    let answer : ℕ × Verdict = (c.in_ok-place.place, c.in_ok-place.verdict) in
    let done = done_as (TakesOne s.net c.args.index c.args.now octets answer) visit.does.shows visit.does.leaves visit.does.met in
    let known = counts_there s.net s.pass s.counts.items c.args.lock.now c.args.index (λ (link : LiveLink). link_number_of octets ≡ link.core.settings.vl.0) (rw (← c.self.view_is) at c.requires) in
    let was = slice_get_read s.counts.items _ c.args.index c.index_mut-2.result.now refl (slice_get_within s.counts.items c.args.index known.0 known.1) c.index_mut-2.ensures.value in
    rw (← c.self.view_is) (calls_after s.net s.pass _ s.counts.items c.self.invariant.0 _ visit c.args.index c.args.now octets answer done c.index_mut-2.result.now c.add.new.self was
    record { vl = c.add.ensures.vl; number = c.add.ensures.number; tally = c.add.ensures.tally })
