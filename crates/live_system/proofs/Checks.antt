-- What a pass keeps of integrity checking, and the links that it finds.
use Rattle.std.proofs.Common.{◌≡◌, ◌∙◌, Bool, true, false, ap, refl, sym, subst, zero, suc, ℕ, ◌+◌, ◌<◌, List, [], ◌∷◌, ◌++◌, append-nil, drop, length, map, reverse, set, Option, None, Some, arith, if◌then◌else◌, ⊎_elim}
use Rattle.std.specs.Prelude.{slice_index_or}
use Rattle.std.specs.List.{slice_get}
use Rattle.std.proofs.lemmas.List.{map-append, reverse-append}
use Rattle.std.proofs.lemmas.Option.{same_Some, slice_get_within}
use Rattle.es_base.specs.declared.event.Event.{Event}
use Rattle.es_base.specs.declared.place.Net.{Net}
use Rattle.es_base.specs.declared.verdict.Verdict.{Verdict}
use Rattle.es_base.specs.Frame.{sequence_number_of}
use Rattle.es_base.specs.Networks.{is_same_net}
use Rattle.es_base.specs.Past.{arrived}
use Rattle.es_base.specs.Settings.{Settings}
use Rattle.es_base.proofs.Elements.{slice_get-set_other, slice_get-set_same, there}
use Rattle.link_rules.specs.Integrity.{latest, may_follow, passes, sequence_numbers_on}
use Rattle.integrity_check.specs.Kept.{StandsFor}
use Rattle.link_core.specs.declared.net_checks.NetChecks.{NetChecks}
use Rattle.link_core.specs.Link.{Link as Core}
use Rattle.link_lock.specs.declared.user.User.{User}
use Rattle.link_lock.specs.Pass.{MayFind}
use Rattle.receiver.specs.declared.receiver.Reply.{Reply}
use Rattle.network_calls.specs.declared.call.Call.{Call}
use Rattle.network_calls.specs.declared.counts.LinkCounts.{LinkCounts}
use Rattle.network_calls.specs.Calls.{call, call_of, calls_from, net_of, user_of}
use Rattle.network_calls.proofs.Events.{calls_append}
use Rattle.network_calls.proofs.Networks.{back, same_net}
use Rattle.live_system.specs.Calls.{LiveLink, as_opened, events_of}
use Rattle.live_system.specs.Checked.{AreChecked, AreNewChecks, AreStanding, IsChecked, Tests, TestsEach, latest_of, numbers_of}
use Rattle.live_system.specs.Chunk.{Entries}
use Rattle.live_system.specs.Groups.{AgreeEach, GroupUser, calls_at, known_links, opened_link_at, pass_at}
use Rattle.live_system.specs.Pass.{KnownLink, known_link}
use Rattle.live_system.specs.Rows.{CallsEach}
use Rattle.live_system.specs.System.{CallsAt}
use Rattle.live_system.proofs.Entries.{Entry, no_entry}
use Rattle.live_system.proofs.Groups.{known_many, known_there, link_found, same_or_other}
use Rattle.live_system.proofs.Receives.{TakesOne}

-- ---- sequence numbers of calls

abbrev number : Call → ℕ
number c = sequence_number_of c.frame

numbers_push : (calls : List Call) (c : Call) → numbers_of (calls ++ c ∷ []) ≡ sequence_number_of c.frame ∷ numbers_of calls
numbers_push calls c = ap (λ (ns : List ℕ). reverse ns) (map-append number calls (c ∷ [])) ∙ reverse-append (map number calls) (number c ∷ [])

times_push : (calls : List Call) (c : Call) → latest_of (calls ++ c ∷ []) ≡ Some c.time
times_push calls c = ap (λ (ts : List ℕ). latest (reverse ts)) (map-append (λ (d : Call). d.time) calls (c ∷ [])) ∙ ap latest (reverse-append (map (λ (d : Call). d.time) calls) (c.time ∷ []))

-- the calls of a network have the numbers of its events
numbers_on : (net : Net) (past : List Event) → numbers_of (calls_from 0 net (reverse past)) ≡ sequence_numbers_on past net
numbers_on net [] = refl
numbers_on net (e ∷ past) =
    ap numbers_of (ap (calls_from 0 net) (reverse-append (e ∷ []) past) ∙ calls_append 0 net (reverse past) (e ∷ [])) ∙ go (numbers_on net past) (is_same_net e.net net)
  where
    before : List Call
    before = calls_from 0 net (reverse past)

    last : Call
    last = call_of (0 + length (reverse past)) e

    go : numbers_of before ≡ sequence_numbers_on past net → (same : Bool)
        → numbers_of (before ++ (if same then last ∷ [] else [])) ≡ (if same then sequence_number_of e.frame ∷ sequence_numbers_on past net else sequence_numbers_on past net)
    go so_far true = numbers_push before last ∙ ap (λ (ns : List ℕ). sequence_number_of e.frame ∷ ns) so_far
    go so_far false = ap numbers_of (append-nil before) ∙ so_far

-- ---- what is kept of each link

pub checked_many : (passes : List KnownLink) (checks : List NetChecks) → AreChecked passes checks → length checks ≡ length passes
checked_many [] [] are = refl
checked_many (k ∷ passes) (c ∷ checks) are = ap suc (checked_many passes checks are.1)
checked_many (k ∷ passes) [] are = absurd are
checked_many [] (c ∷ checks) are = absurd are

pub checks_within : (net : Net) (pass : GroupUser) (counts : List LinkCounts) (checks : List NetChecks) → AreChecked (known_links net pass 0 counts) checks → (at : ℕ) (k : KnownLink) → slice_get (known_links net pass 0 counts) at ≡ Some k → at < length checks
checks_within net pass counts checks are at k is = omega (arith, slice_get_within (known_links net pass 0 counts) at k is, checked_many (known_links net pass 0 counts) checks are)

pub checked_at : (passes : List KnownLink) (checks : List NetChecks) → AreChecked passes checks → (place : ℕ) (c : NetChecks) → slice_get checks place ≡ Some c → (k : KnownLink) × (slice_get passes place ≡ Some k) × IsChecked k c
checked_at [] [] are place c is = cc
checked_at (k ∷ passes) (x ∷ checks) are zero c is = (k, refl, subst (IsChecked k) (same_Some x c is) are.0)
checked_at (k ∷ passes) (x ∷ checks) are (suc place) c is = checked_at passes checks are.1 place c is
checked_at (k ∷ passes) [] are place c is = absurd are
checked_at [] (x ∷ checks) are place c is = absurd are

known_back : (net : Net) (pass : GroupUser) (counts : List LinkCounts) (at : ℕ) (k : KnownLink) → slice_get (known_links net pass 0 counts) at ≡ Some k → (k.link ≡ opened_link_at pass.fixed at) × (k.calls ≡ calls_at pass.list at)
known_back net pass counts at k is =
    let within : at < length counts = omega (arith, slice_get_within (known_links net pass 0 counts) at k is, known_many net pass 0 counts) in
    let c = there counts at within in
    let same : k ≡ known_link net (pass_at pass (0 + at)) c.0 = same_Some k (known_link net (pass_at pass (0 + at)) c.0) (sym is ∙ known_there net pass 0 counts at c.0 c.1) in
    let z : 0 + at ≡ at = omega arith in
    (ap (λ (l : KnownLink). l.link) same ∙ ap (opened_link_at pass.fixed) z, ap (λ (l : KnownLink). l.calls) same ∙ ap (calls_at pass.list) z)

-- what a pass keeps is right of the links that it may find
pub stand_found : (net : Net) (pass : GroupUser) (counts : List LinkCounts) (checks : List NetChecks) → pass.user ≡ user_of net → AreChecked (known_links net pass 0 counts) checks → (lists : User → List (List Call)) (found : List LiveLink)
    → MayFind (map as_opened) AgreeEach pass lists found → AreStanding net found checks
stand_found net pass counts checks user are lists found finds place link c link_there c_there =
    let its = checked_at (known_links net pass 0 counts) checks are place c c_there in
    let known = known_back net pass counts place its.0 its.1 in
    let one = link_found pass lists found finds place link link_there in
    let opened : its.0.link ≡ Some (as_opened link) = known.0 ∙ sym one.fixed in
    let calls : its.0.calls ≡ calls_from 0 net (events_of link) =
    known.1 ∙ (sym one.own ∙ (one.agrees.calls pass.user ∙ ap (λ (n : Net). calls_from 0 n (events_of link)) (ap net_of user ∙ back net))) in
    let numbers : numbers_of its.0.calls ≡ sequence_numbers_on link.core.past net = ap numbers_of calls ∙ numbers_on net link.core.past in
    subst (StandsFor c.sequence link.core.settings.window) numbers (its.2.numbers (as_opened link) opened)

-- a frame passes if it does by what stands for its link
pub passes_by : (net : Net) (found : List LiveLink) (checks : List NetChecks) (at now : ℕ) (octets : List ℕ) (passed : Bool) (c : NetChecks) → AreStanding net found checks → slice_get checks at ≡ Some c
    → ((window : ℕ) (numbers : List ℕ) → StandsFor c.sequence window numbers → passed ≡ may_follow window (latest numbers) (sequence_number_of octets))
    → (link : LiveLink) → slice_get found at ≡ Some link → passed ≡ passes link.core.settings link.core.past (arrived net now octets)
passes_by net found checks at now octets passed c stands is tests link link_there = tests _ _ (stands at link c link_there is)

-- ---- one frame

checked_set : (passes : List KnownLink) (checks : List NetChecks) (at : ℕ) (before after : KnownLink) (c new : NetChecks) → AreChecked passes checks → slice_get passes at ≡ Some before → slice_get checks at ≡ Some c
    → (IsChecked before c → IsChecked after new) → AreChecked (set passes at after) (set checks at new)
checked_set [] checks at before after c new are there_is is step = cc
checked_set (k ∷ passes) [] at before after c new are there_is is step = absurd are
checked_set (k ∷ passes) (x ∷ checks) zero before after c new are there_is is step =
    (step (subst (λ (p : KnownLink). IsChecked p c) (same_Some k before there_is) (subst (IsChecked k) (same_Some x c is) are.0)), are.1)
checked_set (k ∷ passes) (x ∷ checks) (suc at) before after c new are there_is is step = (are.0, checked_set passes checks at before after c new are.1 there_is is step)

-- after one call more
pub checked_call : (olds news : List KnownLink) (checks : List NetChecks) (at place now : ℕ) (octets : List ℕ) (verdict : Verdict) (c new : NetChecks) → AreChecked olds checks → CallsAt olds at (call place now octets verdict) news → slice_get checks at ≡ Some c
    → ((window : ℕ) (numbers : List ℕ) → StandsFor c.sequence window numbers → StandsFor new.sequence window (sequence_number_of octets ∷ numbers))
    → new.latest ≡ Some now → AreChecked news (set checks at new)
checked_call olds news checks at place now octets verdict c new are done is notes last =
    subst (λ (links : List KnownLink). AreChecked links (set checks at new)) (sym done.only)
    (checked_set olds checks at done.before done.after c new are done.there is
    (λ was. record {
      numbers = λ link known.
          subst (StandsFor new.sequence link.core.settings.window) (sym (ap numbers_of done.does.calls ∙ numbers_push done.before.calls (call place now octets verdict)))
          (notes _ _ (was.numbers link (sym done.does.link ∙ known)));
      times = last ∙ sym (ap latest_of done.does.calls ∙ times_push done.before.calls (call place now octets verdict));
    }))

-- after one frame more was taken
pub standing_then : (net : Net) (found left : List LiveLink) (checks : List NetChecks) (at now : ℕ) (octets : List ℕ) (r : ℕ × Verdict) (c new : NetChecks) → AreStanding net found checks → TakesOne net at now octets r found left → slice_get checks at ≡ Some c
    → ((window : ℕ) (numbers : List ℕ) → StandsFor c.sequence window numbers → StandsFor new.sequence window (sequence_number_of octets ∷ numbers))
    → AreStanding net left (set checks at new)
standing_then net found left checks at now octets r c new stands did is notes place link x link_there x_there = ⊎_elim (λ (same : place ≡ at). here same) (λ (other : place ≡ at → ⊥). elsewhere other) (same_or_other place at)
  where
    elsewhere : (place ≡ at → ⊥) → StandsFor x.sequence link.core.settings.window (sequence_numbers_on link.core.past net)
    elsewhere other =
        stands place link x
        (sym (slice_get-set_other found at place did.after other) ∙ (ap (λ (links : List LiveLink). slice_get links place) (sym did.only) ∙ link_there))
        (sym (slice_get-set_other checks at place new other) ∙ x_there)

    here : place ≡ at → StandsFor x.sequence link.core.settings.window (sequence_numbers_on link.core.past net)
    here same =
        let after_is : did.after ≡ link =
        same_Some did.after link (sym (slice_get-set_same found at did.after (slice_get_within found at did.before did.there)) ∙ (ap (λ (links : List LiveLink). slice_get links at) (sym did.only) ∙ (ap (slice_get left) (sym same) ∙ link_there))) in
        let new_is : new ≡ x = same_Some new x (sym (slice_get-set_same checks at new (slice_get_within checks at c is)) ∙ (ap (slice_get (set checks at new)) (sym same) ∙ x_there)) in
        let one : StandsFor new.sequence did.before.core.settings.window (sequence_number_of octets ∷ sequence_numbers_on did.before.core.past net) = notes _ _ (stands at did.before c did.there is) in
        let now_is : StandsFor new.sequence did.after.core.settings.window (sequence_numbers_on did.after.core.past net) =
        subst (λ (core : Core). StandsFor new.sequence core.settings.window (sequence_numbers_on core.past net)) (sym did.does.0.core) (rw (same_net net) one) in
        subst (λ (l : LiveLink). StandsFor x.sequence l.core.settings.window (sequence_numbers_on l.core.past net)) after_is
        (subst (λ (y : NetChecks). StandsFor y.sequence did.after.core.settings.window (sequence_numbers_on did.after.core.past net)) new_is now_is)

-- ---- frames of a row

-- one frame more is tested
pub tests_push : (index : ℕ → ℕ) (olds mids : List NetChecks) (es : Entries) (ps : List Bool) (e : Entry) (passed : Bool) (old new : NetChecks) → TestsEach index olds es ps mids → slice_get mids (index e.0) ≡ Some old
    → Tests old (sequence_number_of e.1.1.now) e.1.0 passed new → TestsEach index olds (es ++ e ∷ []) (ps ++ passed ∷ []) (set mids (index e.0) new)
tests_push index olds mids [] [] e passed old new told was one =
    (old, new, ap (λ (cs : List NetChecks). slice_get cs (index e.0)) (sym told) ∙ was, one, ap (λ (cs : List NetChecks). set cs (index e.0) new) told)
tests_push index olds mids (d ∷ es) (p ∷ ps) e passed old new told was one = (told.0, told.1, told.2, told.3, tests_push index (set olds (index d.0) told.1) mids es ps e passed old new told.4 was one)
tests_push index olds mids [] (p ∷ ps) e passed old new told was one = absurd told
tests_push index olds mids (d ∷ es) [] e passed old new told was one = absurd told

-- the next of those that were tested
pub record Next (index : ℕ → ℕ) (olds : List NetChecks) (e : Entry) (passed : Bool) (es : Entries) (ps : List Bool) (news : List NetChecks) : Type 0 where
  pub old : NetChecks
  pub new : NetChecks
  pub was : slice_get olds (index e.0) ≡ Some old
  pub tests : Tests old (sequence_number_of e.1.1.now) e.1.0 passed new
  pub rest : TestsEach index (set olds (index e.0) new) es ps news

pub tests_next : (index : ℕ → ℕ) (olds news : List NetChecks) (place : ℕ) (es : Entries) (ps : List Bool) → place < length es → TestsEach index olds (drop place es) (drop place ps) news
    → Next index olds (slice_index_or es place no_entry) (slice_index_or ps place false) (drop (suc place) es) (drop (suc place) ps) news
tests_next index olds news zero [] ps within told = absurd (omega (arith, within))
tests_next index olds news zero (e ∷ es) [] within told = absurd told
tests_next index olds news zero (e ∷ es) (p ∷ ps) within told = record { old = told.0; new = told.1; was = told.2; tests = told.3; rest = told.4 }
tests_next index olds news (suc place) [] ps within told = absurd (omega (arith, within))
tests_next index olds news (suc place) (e ∷ es) [] within told = absurd (none_drop es place within told)
  where
    none_drop : (es : Entries) (place : ℕ) → suc place < suc (length es) → TestsEach index olds (drop place es) [] news → ⊥
    none_drop [] place within told = omega (arith, within)
    none_drop (e ∷ es) zero within told = told
    none_drop (e ∷ es) (suc place) within told = none_drop es place (omega (arith, within)) told
tests_next index olds news (suc place) (e ∷ es) (p ∷ ps) within told = tests_next index olds news place es ps (omega (arith, within)) told

-- the calls of all
pub checked_each : (index : ℕ → ℕ) (olds news : List KnownLink) (checks after : List NetChecks) (es : Entries) (rs : List Reply) (ps : List Bool) → AreChecked olds checks → CallsEach index olds es rs news → TestsEach index checks es ps after → AreChecked news after
checked_each index olds news checks after [] [] [] are calls tests = rw (calls, tests) are
checked_each index olds news checks after (e ∷ es) (r ∷ rs) (p ∷ ps) are calls tests =
    checked_each index calls.0 news (set checks (index e.0) tests.1) after es rs ps
    (checked_call olds calls.0 checks (index e.0) calls.1 e.1.0 e.1.1.now calls.2 tests.0 tests.1 are calls.4 tests.2 tests.3.notes tests.3.last) calls.5 tests.4
checked_each index olds news checks after [] [] (p ∷ ps) are calls tests = absurd tests
checked_each index olds news checks after [] (r ∷ rs) ps are calls tests = absurd calls
checked_each index olds news checks after (e ∷ es) [] ps are calls tests = absurd calls
checked_each index olds news checks after (e ∷ es) (r ∷ rs) [] are calls tests = absurd tests

-- ---- the opening

pub new_checks_push : (links : List Settings) (checks : List NetChecks) (settings : Settings) (c : NetChecks) → AreNewChecks links checks → StandsFor c.sequence settings.window [] × (c.latest ≡ None) → AreNewChecks (links ++ settings ∷ []) (checks ++ c ∷ [])
new_checks_push [] [] settings c are is = (is, tt)
new_checks_push (s ∷ links) (x ∷ checks) settings c are is = (are.0, new_checks_push links checks settings c are.1 is)
new_checks_push (s ∷ links) [] settings c are is = absurd are
new_checks_push [] (x ∷ checks) settings c are is = absurd are

same_settings : (links : List LiveLink) (i : ℕ) (link : LiveLink) (s : Settings) → slice_get (map as_opened links) i ≡ Some link → slice_get (map (λ (l : LiveLink). l.core.settings) links) i ≡ Some s → link.core.settings ≡ s
same_settings [] i link s there_is is = cc
same_settings (l ∷ links) zero link s there_is is = ap (λ (x : LiveLink). x.core.settings) (sym (same_Some (as_opened l) link there_is)) ∙ same_Some l.core.settings s is
same_settings (l ∷ links) (suc i) link s there_is is = same_settings links i link s there_is is

new_from : (net : Net) (pass : GroupUser) (place : ℕ) (settings : List Settings) (counts : List LinkCounts) (checks : List NetChecks) → pass.list ≡ []
    → ((i : ℕ) (link : LiveLink) (s : Settings) → opened_link_at pass.fixed (place + i) ≡ Some link → slice_get settings i ≡ Some s → link.core.settings ≡ s)
    → length counts ≡ length settings → AreNewChecks settings checks → AreChecked (known_links net pass place counts) checks
new_from net pass place [] [] [] none each many are = tt
new_from net pass place (s ∷ settings) (c ∷ counts) (x ∷ checks) none each many are = (
  record {
    numbers = λ link known.
        let z : place ≡ place + 0 = omega arith in
        let same : link.core.settings ≡ s = each 0 link s (ap (opened_link_at pass.fixed) (sym z) ∙ known) refl in
        rw (none, same) are.0.0;
    times = rw none are.0.1;
  },
  new_from net pass (suc place) settings counts checks none
      (λ i link t known is. let z : place + suc i ≡ suc place + i = omega arith in each (suc i) link t (ap (opened_link_at pass.fixed) z ∙ known) is) (omega (arith, many)) are.1,
)
new_from net pass place [] (c ∷ counts) checks none each many are = absurd (omega (arith, many))
new_from net pass place (s ∷ settings) [] checks none each many are = absurd (omega (arith, many))
new_from net pass place [] [] (x ∷ checks) none each many are = absurd are
new_from net pass place (s ∷ settings) (c ∷ counts) [] none each many are = absurd are

-- a pass that did nothing
pub new_checked : (net : Net) (pass : GroupUser) (links : List LiveLink) (settings : List Settings) (counts : List LinkCounts) (checks : List NetChecks) → pass.list ≡ [] → pass.fixed ≡ Some (map as_opened links)
    → map (λ (l : LiveLink). l.core.settings) links ≡ settings → length counts ≡ length settings → AreNewChecks settings checks → AreChecked (known_links net pass 0 counts) checks
new_checked net pass links settings counts checks none fixed same many are =
    new_from net pass 0 settings counts checks none
    (λ i link s known is.
    let z : 0 + i ≡ i = omega arith in
    same_settings links i link s (ap (λ (ls : Option (List LiveLink)). opened_link_at ls i) (sym fixed) ∙ (ap (opened_link_at pass.fixed) (sym z) ∙ known)) (ap (λ (ss : List Settings). slice_get ss i) same ∙ is))
    many are
