use Rattle.std.proofs.Common.{◌≡◌, ◌∙◌, List, ap, length, refl, sym, take}
use Rattle.std.specs.Prelude.{slice_index_or}
use Rattle.std.proofs.lemmas.Option.{slice_get_within}
use Rattle.es_base.specs.Addressing.{addressee_of}
use Rattle.live_system.specs.Calls.{LiveLink}
use Rattle.live_system.specs.Groups.{KnowsAt, go_on, known_links}
use Rattle.live_system.specs.Rows.{AreForLinks, TookEach, index_at}
use Rattle.live_system.proofs.Checks.{checked_each, checks_within, stand_found}
use Rattle.live_system.proofs.Entries.{calls_each, leaves_each, no_entry, numbered_each, together_at}
use Rattle.live_system.proofs.Groups.{counts_there, done_as, finds_link, same_lock}
use Rattle.live_system.proofs.link_pass.GroupPass.receive_each.Goals as goal

pub test_each-passed-requires-clause-frames : goal.test_each-passed-requires-clause-frames
test_each-passed-requires-clause-frames g c = λ n d within.
    let s = c.self.inside in
    let asked = rw (← c.self.view_is) at c.requires.frames in
    let k = asked n d within in
    (k.frame, k.within, checks_within s.net s.pass s.counts.items s.checks.items c.self.invariant.1 (index_at c.args.places.now (slice_index_or c.args.row.now n d).0) k.pass k.there)

pub visit-answers-requires-clause-lock : goal.visit-answers-requires-clause-lock
visit-answers-requires-clause-lock g c =
    let s = c.self.inside in
    let asked = rw (← c.self.view_is) at c.requires.frames in
    let e = slice_index_or c.args.row.now 0 no_entry in
    let k = asked 0 no_entry c.requires.some in
    let knows : KnowsAt (known_links s.net s.pass 0 s.counts.items) c.args.lock.now (index_at c.args.places.now e.0) (λ (link : LiveLink). addressee_of e.1.1.now ≡ link.core.settings.vl) = (k.pass, k.there, k.at_lock, k.link, k.known, k.addressed) in
    same_lock s.net s.pass s.counts.items c.args.lock.now (index_at c.args.places.now e.0) (λ (link : LiveLink). addressee_of e.1.1.now ≡ link.core.settings.vl) knows

pub visit-answers-requires-clause-callable : goal.visit-answers-requires-clause-callable
visit-answers-requires-clause-callable g c = λ lists found finds p is.
    let s = c.self.inside in
    let asked = rw (← c.self.view_is) at c.requires.frames in
    let are : AreForLinks (index_at c.args.places.now) (length c.args.places.now) found c.args.row.now =
    (λ n d within.
    let e = slice_index_or c.args.row.now n d in
    let k = asked n d within in
    let knows : KnowsAt (known_links s.net s.pass 0 s.counts.items) c.args.lock.now (index_at c.args.places.now e.0) (λ (link : LiveLink). addressee_of e.1.1.now ≡ link.core.settings.vl) =
    (k.pass, k.there, k.at_lock, k.link, k.known, k.addressed) in
    let link = finds_link s.net s.pass s.counts.items c.args.lock.now (index_at c.args.places.now e.0) (λ (link : LiveLink). addressee_of e.1.1.now ≡ link.core.settings.vl) knows lists found finds in
    (k.within, k.frame, (link.0, link.1, k.addressed ∙ ap (λ (l : LiveLink). l.core.settings.vl) (sym link.2)))) in
    let stands = stand_found s.net s.pass s.counts.items s.checks.items c.self.invariant.0.user c.self.invariant.1 lists found finds in
    (c.requires.few, rw is ((s.checks.items, c.test_each-passed.new.checks.items, stands, c.test_each-passed.ensures), are))

pub visit-answers-requires-clause-keeps : goal.visit-answers-requires-clause-keeps
visit-answers-requires-clause-keeps g c lists found left answers finds did =
    let s = c.self.inside in
    let rs = take (length c.args.row.now) answers in
    let took = done_as (λ (olds : List LiveLink) (news : List LiveLink). TookEach (index_at c.args.places.now) s.net olds c.args.row.now (take (length c.args.row.now) answers) news) did.shows did.leaves did.met in
    leaves_each (index_at c.args.places.now) s.net s.pass lists found left c.args.row.now rs finds c.self.invariant.0.user took

pub tell_each-requires-clause-places : goal.tell_each-requires-clause-places
tell_each-requires-clause-places g c = λ n d within.
    let s = c.self.inside in
    let asked = rw (← c.self.view_is) at c.requires.frames in
    let e = slice_index_or c.args.row.now n d in
    let k = asked n d within in
    let knows : KnowsAt (known_links s.net s.pass 0 s.counts.items) c.args.lock.now (index_at c.args.places.now e.0) (λ (link : LiveLink). addressee_of e.1.1.now ≡ link.core.settings.vl) = (k.pass, k.there, k.at_lock, k.link, k.known, k.addressed) in
    let known = counts_there s.net s.pass s.counts.items c.args.lock.now (index_at c.args.places.now e.0) (λ (link : LiveLink). addressee_of e.1.1.now ≡ link.core.settings.vl) knows in
    (k.within, slice_get_within s.counts.items (index_at c.args.places.now e.0) known.0 known.1)

pub invariant_of-self : goal.invariant_of-self
invariant_of-self g c =
    let s = c.self.inside in
    let visit = c.visit-answers.ensures in
    let rs = take (length c.args.row.now) c.visit-answers.result in
    let asked = rw (← c.self.view_is) at c.requires.frames in
    let took = done_as (λ (olds : List LiveLink) (news : List LiveLink). TookEach (index_at c.args.places.now) s.net olds c.args.row.now (take (length c.args.row.now) c.visit-answers.result) news) visit.does.shows visit.does.leaves visit.does.met in
    let numbered = numbered_each (index_at c.args.places.now) (length c.args.places.now) s.net s.pass s.counts.items c.args.lock.now c.args.row.now asked in
    let calls = calls_each (index_at c.args.places.now) s.net s.pass visit.lists visit.found visit.left c.args.row.now rs c.tell_each.new.replies s.counts.items c.tell_each.new.counts.items visit.finds c.self.invariant.0 took c.tell_each.ensures numbered
    (go_on s.pass.user visit.found visit.left s.pass.list) (λ p within. refl) in
    rw visit.knows (calls.1, checked_each (index_at c.args.places.now) _ _ s.checks.items c.test_each-passed.new.checks.items c.args.row.now c.tell_each.new.replies _ c.self.invariant.1 calls.0 c.test_each-passed.ensures)

pub returns-clause-calls : goal.returns-clause-calls
returns-clause-calls g c =
    let s = c.self.inside in
    let visit = c.visit-answers.ensures in
    let rs = take (length c.args.row.now) c.visit-answers.result in
    let asked = rw (← c.self.view_is) at c.requires.frames in
    let took = done_as (λ (olds : List LiveLink) (news : List LiveLink). TookEach (index_at c.args.places.now) s.net olds c.args.row.now (take (length c.args.row.now) c.visit-answers.result) news) visit.does.shows visit.does.leaves visit.does.met in
    let numbered = numbered_each (index_at c.args.places.now) (length c.args.places.now) s.net s.pass s.counts.items c.args.lock.now c.args.row.now asked in
    rw (← c.self.view_is, visit.knows)
    (calls_each (index_at c.args.places.now) s.net s.pass visit.lists visit.found visit.left c.args.row.now rs c.tell_each.new.replies s.counts.items c.tell_each.new.counts.items visit.finds c.self.invariant.0 took c.tell_each.ensures numbered
    (go_on s.pass.user visit.found visit.left s.pass.list) (λ p within. refl)).0

pub returns-clause-together : goal.returns-clause-together
returns-clause-together g c = λ n d within apart.
    let s = c.self.inside in
    let visit = c.visit-answers.ensures in
    let rs = take (length c.args.row.now) c.visit-answers.result in
    let asked = rw (← c.self.view_is) at c.requires.frames in
    let took = done_as (λ (olds : List LiveLink) (news : List LiveLink). TookEach (index_at c.args.places.now) s.net olds c.args.row.now (take (length c.args.row.now) c.visit-answers.result) news) visit.does.shows visit.does.leaves visit.does.met in
    let e = slice_index_or c.args.row.now n d in
    let k = asked n d within in
    let knows : KnowsAt (known_links s.net s.pass 0 s.counts.items) c.args.lock.now (index_at c.args.places.now e.0) (λ (link : LiveLink). addressee_of e.1.1.now ≡ link.core.settings.vl) = (k.pass, k.there, k.at_lock, k.link, k.known, k.addressed) in
    let link = finds_link s.net s.pass s.counts.items c.args.lock.now (index_at c.args.places.now e.0) (λ (link : LiveLink). addressee_of e.1.1.now ≡ link.core.settings.vl) knows visit.lists visit.found visit.finds in
    (length link.0.core.past, together_at (index_at c.args.places.now) s.net e.0 visit.found visit.left c.args.row.now rs c.tell_each.new.replies s.counts.items c.tell_each.new.counts.items link.0 link.1 apart took c.tell_each.ensures)
