-- From the opening of a system to its end.
use Rattle.std.proofs.Common.{◌≡◌, ◌∙◌, ap, sym, refl, ℕ, zero, suc, ◌+◌, ◌==◌, Bool, true, false, List, [], ◌∷◌, ◌++◌, length, map, if◌then◌else◌, append-nil, Option, Some}
use Rattle.std.specs.List.{slice_get}
use Rattle.std.proofs.lemmas.List.{length-map, map-append, reverse-reverse}
use Rattle.std.proofs.lemmas.Option.{same_Some}
use Rattle.es_base.specs.declared.place.LinkNo.{LinkNo}
use Rattle.es_base.specs.declared.place.Net.{Net}
use Rattle.es_base.specs.declared.place.Net.TheVariants.{A, B}
use Rattle.es_base.specs.declared.event.Arrival.{Arrival}
use Rattle.es_base.specs.Config.{link_of}
use Rattle.es_base.specs.FilterTally.{HasFiltered}
use Rattle.es_base.specs.Networks.{is_same_net}
use Rattle.es_base.specs.Past.{arrived}
use Rattle.es_base.specs.Port.{Port}
use Rattle.es_base.specs.Settings.{Settings}
use Rattle.es_base.specs.Tally.{IsKind, count_of}
use Rattle.es_base.specs.Verdict.{kind_of, verdict_kinds}
use Rattle.es_base.proofs.Addressed.{link_at}
use Rattle.es_base.proofs.Counted.{one_frame_more}
use Rattle.link_core.specs.Counted.{shown}
use Rattle.link_lock.specs.declared.user.User.TheVariants.{First, Second}
use Rattle.receiver.specs.declared.ends.LinkEnds.{LinkEnds}
use Rattle.receiver.specs.declared.partition.PartitionEnd.{PartitionEnd}
use Rattle.receiver.specs.Ends.{ArePortsOpened}
use Rattle.receiver.specs.Outlet.{reads_by}
use Rattle.receiver.specs.Port.{ReadsPort, ShowsPort}
use Rattle.receiver.specs.Receiver.{AreNewLinks}
use Rattle.network_calls.specs.declared.call.Call.{Call}
use Rattle.receiver.specs.declared.receiver.Reply.TheVariants as replies
use Rattle.network_calls.specs.Calls.{call, calls_from, count_calls}
use Rattle.network_calls.specs.Counts.{KnownCounts}
use Rattle.network_calls.specs.Ended.{CountsCalls, CountsFiltered, HasSettled}
use Rattle.network_calls.specs.Passes.{IsCounted, IsNewPassOf, KnownNet, System, calls_of, calls_with}
use Rattle.network_calls.specs.Threads.{BothPasses}
use Rattle.network_calls.proofs.Filtered.{not_filtered}
use Rattle.network_calls.proofs.Named.{named_at, other_place, this_place}
use Rattle.network_calls.proofs.Standing.{stand}
use Rattle.network_calls.proofs.Rows.{at_place, does_elsewhere, does_here, found_pass, idle_at}
use Rattle.network_calls.proofs.Settling.{SettledAt, settled_at}
use Rattle.network_calls.proofs.Threads.{BothKnow, both_know as all_known, each_call}
use Rattle.live_system.specs.Calls.{LiveLink, as_opened, events_of, new_outlet}
use Rattle.live_system.specs.Pass.{Calls, KnownLink}
use Rattle.live_system.specs.System.{CallsAt, IsPassOf, KnowLinks, keeping_no_frame}
use Rattle.live_system.specs.Run.{AreOpened, Does, EndsInOneRun, HasEnded, IsAnswered, Ran, Step, call_in, received, calls_in, frame_in, frames_in, met, shown_call}

-- ---- calls as replies show them

abbrev shown_calls : List Call → List Call
shown_calls calls = map shown_call calls

-- they are counted as the calls are
count_shown : (kind : ℕ) (calls : List Call) → count_calls kind (shown_calls calls) ≡ count_calls kind calls
count_shown kind [] = refl
count_shown kind (c ∷ calls) = ap (λ (n : ℕ). if kind_of c.verdict == kind then n + 1 else n) (count_shown kind calls)

-- ---- what a pass says of a link after some calls

record AtLink (first : KnownNet KnownLink) (place : ℕ) (calls : List Call) (now : KnownNet KnownLink) : Type 0 where
  pub pass : KnownLink
  pub there : slice_get now.links place ≡ Some pass
  pub has_calls : shown_calls pass.calls ≡ calls
  pub opened : KnownLink
  pub was_there : slice_get first.links place ≡ Some opened
  pub link : pass.link ≡ opened.link

module _ (first : KnownNet KnownLink) (place : ℕ) (calls : List Call) (old new : KnownNet KnownLink) (was : AtLink first place calls old) where
  stays : slice_get new.links place ≡ slice_get old.links place → AtLink first place (calls ++ []) new
  stays same =
      let here : AtLink first place calls new = record {
        pass = was.pass;
        there = same ∙ was.there;
        has_calls = was.has_calls;
        opened = was.opened;
        was_there = was.was_there;
        link = was.link;
      } in
      rw (append-nil calls) here

  stays_all : new.links ≡ old.links → AtLink first place (calls ++ []) new
  stays_all same = stays (ap (λ (links : List KnownLink). slice_get links place) same)

  -- a call at another place
  stays_other : (at : ℕ) (c : Call) → CallsAt old.links at c new.links → (place ≡ at → ⊥) → AtLink first place (calls ++ []) new
  stays_other at c does other = stays (does_elsewhere (λ before after. Calls before c after) old.links new.links at does place other)

  calls_one : (at : ℕ) (c : Call) → CallsAt old.links at c new.links → at ≡ place → AtLink first place (calls ++ shown_call c ∷ []) new
  calls_one at c does same =
      let here = does_here (λ before after. Calls before c after) old.links new.links at does place was.pass was.there same in
      record {
        pass = does.after;
        there = here.0;
        has_calls = ap shown_calls (does.does.calls ∙ ap (λ (k : KnownLink). k.calls ++ c ∷ []) here.1)
            ∙ (map-append shown_call was.pass.calls (c ∷ []) ∙ ap (λ (cs : List Call). cs ++ shown_call c ∷ []) was.has_calls);
        opened = was.opened;
        was_there = was.was_there;
        link = does.does.link ∙ (ap (λ (k : KnownLink). k.link) here.1 ∙ was.link);
      }

  came_to : (links : List Settings) (vl : LinkNo) → link_of links vl ≡ Some place → (number : LinkNo) (at : ℕ) (c : Call) (b : Bool) → link_of links number ≡ Some at → (number.0 == vl.0) ≡ b
      → CallsAt old.links at c new.links
      → AtLink first place (calls ++ (if b then shown_call c ∷ [] else [])) new
  came_to links vl named number at c true first_at same does = calls_one at c does (this_place links vl place named number at first_at same)
  came_to links vl named number at c false first_at apart does = stays_other at c does (other_place links vl place named number at first_at apart)

does_one : (system : System) (first : KnownNet KnownLink) (vl : LinkNo) (place : ℕ) (calls : List Call) (step : Step) (old new : KnownNet KnownLink) → link_of system.config.links vl ≡ Some place → Does system step old new
    → AtLink first place calls old → AtLink first place (calls ++ call_in vl step) new
does_one system first vl place calls (received time octets (replies.Filtered cause)) old new named does was = stays_all first place calls old new was does.1
does_one system first vl place calls (received time octets (replies.Link at number shows verdict)) old new named does was =
    let first_at : link_of system.config.links number ≡ Some at = ap (link_of system.config.links) does.1 ∙ does.0.first in
    rw does.4 (came_to first place calls old new was system.config.links vl named number at (call does.3 time octets verdict) (number.0 == vl.0) first_at refl does.5)
does_one system first vl place calls met old new named does was = stays_all first place calls old new was (ap (λ (n : KnownNet KnownLink). n.links) does)

-- ---- filtered frames

filters_one : (system : System) (net : Net) (earlier : List Arrival) (step : Step) (old new : KnownNet KnownLink) → old.net ≡ net → Does system step old new → HasFiltered old.filtered system.config earlier
    → HasFiltered new.filtered system.config (frame_in net step ++ earlier)
filters_one system net earlier (received time octets (replies.Filtered cause)) old new is does has =
    let adds = rw is at does.2 in
    one_frame_more old.filtered new.filtered system.config earlier (arrived net time octets) cause has does.0 adds
filters_one system net earlier (received time octets (replies.Link at number shows verdict)) old new is does has =
    let link = link_at system.config octets at does.0 in
    let kept : HasFiltered new.filtered system.config earlier = rw does.2 has in
    not_filtered new.filtered system.config earlier (arrived net time octets) link.0 kept link.1.comes
filters_one system net earlier met old new is does has = rw does has

-- ---- all calls of one network

record Knows (system : System) (first : KnownNet KnownLink) (net : Net) (steps : List (Net × Step)) (now : KnownNet KnownLink) : Type 0 where
  pub own : IsPassOf system now
  pub of_net : now.net ≡ net
  pub filtered : HasFiltered now.filtered system.config (frames_in net steps)
  pub each : (vl : LinkNo) (place : ℕ) → link_of system.config.links vl ≡ Some place → AtLink first place (calls_in net vl steps) now

knows_more : (system : System) (first : KnownNet KnownLink) (net : Net) (one : Net × Step) (steps : List (Net × Step)) (old new : KnownNet KnownLink) → is_same_net one.0 net ≡ true
    → IsPassOf system new → new.net ≡ old.net → Does system one.1 old new → Knows system first net steps old
    → Knows system first net (one ∷ steps) new
knows_more system first net one steps old new same own stays does knows = record {
  own = own;
  of_net = stays ∙ knows.of_net;
  filtered = rw same (filters_one system net (frames_in net steps) one.1 old new knows.of_net does knows.filtered);
  each = λ vl place named. rw same (does_one system first vl place (calls_in net vl steps) one.1 old new named does (knows.each vl place named));
}

knows_still : (system : System) (first : KnownNet KnownLink) (net : Net) (one : Net × Step) (steps : List (Net × Step)) (now : KnownNet KnownLink) → is_same_net one.0 net ≡ false → Knows system first net steps now
    → Knows system first net (one ∷ steps) now
knows_still system first net one steps now apart knows = record {
  own = knows.own;
  of_net = knows.of_net;
  filtered = rw apart knows.filtered;
  each = λ vl place named. rw apart (knows.each vl place named);
}

knows_none : (system : System) (first : KnownNet KnownLink) (net : Net) → IsPassOf system first → IsNewPassOf keeping_no_frame net first → Knows system first net [] first
knows_none system first net own new = record {
  own = own;
  of_net = new.of_net;
  filtered = new.none_filtered;
  each = λ vl place named.
      let link = named_at system.config.links vl place named in
      let at = at_place keeping_no_frame first.net system.locks system.config.links first.links place link.settings own link.there in
      record {
        pass = at.pass;
        there = at.pass_there;
        has_calls = ap shown_calls (idle_at keeping_no_frame first.links place at.pass new.no_calls at.pass_there);
        opened = at.pass;
        was_there = at.pass_there;
        link = refl;
      };
}

-- ---- of both

both_know : (readers : Port → ℕ) (system : System) (first last : BothPasses KnownLink) (ends : List (LinkEnds PartitionEnd)) (steps : List (Net × Step))
    → AreOpened readers system first ends → Ran system first steps last → BothKnow (Knows system) first steps last
both_know readers system first last ends steps opened ran =
    all_known (IsPassOf system) (Does system) (Knows system) (knows_more system) (knows_still system) first last steps
    (record { a = knows_none system first.a A opened.own_a opened.new_a; b = knows_none system first.b B opened.own_b opened.new_b }) ran

-- ---- the end

record EndsAt (readers : Port → ℕ) (settings : Settings) (place : ℕ) (pass : KnownLink) (ends : List (LinkEnds PartitionEnd)) : Type 0 where
  pub link : LiveLink
  pub known : pass.link ≡ Some link
  pub its_ends : LinkEnds PartitionEnd
  pub there : slice_get ends place ≡ Some its_ends
  pub ports : ArePortsOpened ShowsPort (reads_by ReadsPort readers) 0 settings.ports link.outlets its_ends.ports.items

ends_at : (readers : Port → ℕ) (settings : List Settings) (links : List LiveLink) (passes : List KnownLink) (ends : List (LinkEnds PartitionEnd)) (place : ℕ) (one : Settings) (pass : KnownLink)
    → AreNewLinks ShowsPort (reads_by ReadsPort readers) settings links ends → KnowLinks passes links → slice_get settings place ≡ Some one → slice_get passes place ≡ Some pass → EndsAt readers one place pass ends
ends_at readers [] links passes ends place one pass are know there in_passes = cc
ends_at readers (s ∷ settings) [] passes ends place one pass are know there in_passes = absurd are
ends_at readers (s ∷ settings) (l ∷ links) [] ends place one pass are know there in_passes = absurd know
ends_at readers (s ∷ settings) (l ∷ links) (k ∷ passes) [] place one pass are know there in_passes = absurd are
ends_at readers (s ∷ settings) (l ∷ links) (k ∷ passes) (e ∷ ends) zero one pass are know there in_passes =
    rw (← same_Some s one there, ← same_Some k pass in_passes) (record { link = l; known = know.0; its_ends = e; there = refl; ports = are.0.0.opened })
ends_at readers (s ∷ settings) (l ∷ links) (k ∷ passes) (e ∷ ends) (suc place) one pass are know there in_passes =
    let later = ends_at readers settings links passes ends place one pass are.1 know.1 there in_passes in
    record { link = later.link; known = later.known; its_ends = later.its_ends; there = later.there; ports = later.ports }

ends_in_one_run : (readers : Port → ℕ) (steps : List (Net × Step)) (settings : Settings) (ends : List (LinkEnds PartitionEnd)) (place : ℕ) (first : BothPasses KnownLink) (last : BothPasses KnownLink) (links : List LiveLink)
    → (a : AtLink first.a place (calls_in A settings.vl steps) last.a) → (b : AtLink first.b place (calls_in B settings.vl steps) last.b)
    → EndsAt readers settings place a.opened ends → (at : SettledAt keeping_no_frame settings place a.pass b.pass links) → EndsInOneRun readers steps settings ends place at.link
ends_in_one_run readers steps settings ends place first last links a b its at =
    let agrees = at.settled.agrees in
    let link = at.link in
    let opened : as_opened link ≡ its.link = same_Some (as_opened link) its.link (at.settled.opened ∙ (a.link ∙ its.known)) in
    let outlets : its.link.outlets ≡ map new_outlet link.outlets = ap (λ (l : LiveLink). l.outlets) (sym opened) in
    record {
      with_settings = at.with_settings;
      ported = agrees.ported;
      replied = its_calls;
      stand = stand (λ net. calls_from 0 net (events_of link)) settings (events_of link) (rw (reverse-reverse link.core.past) (rw at.with_settings at agrees.ported.run)) (λ net. refl);
      counted = counted_of;
      its_ends = its.its_ends;
      there = its.there;
      of_its_ports = rw outlets at its.ports;
    }
  where
    its_calls : (net : Net) → calls_in net settings.vl steps ≡ shown_calls (calls_from 0 net (events_of at.link))
    its_calls A = sym a.has_calls ∙ ap shown_calls (at.settled.agrees.calls First)
    its_calls B = sym b.has_calls ∙ ap shown_calls (at.settled.agrees.calls Second)

    counted_of : (net : Net) (kind : ℕ) → IsKind verdict_kinds kind → count_of at.link.core.past net kind ≡ count_calls kind (calls_in net settings.vl steps)
    counted_of A kind is = at.settled.counted A kind is ∙ (sym (count_shown kind a.pass.calls) ∙ ap (count_calls kind) a.has_calls)
    counted_of B kind is = at.settled.counted B kind is ∙ (sym (count_shown kind b.pass.calls) ∙ ap (count_calls kind) b.has_calls)

-- ---- what a pass counted

counts_calls : (system : System) (first : KnownNet KnownLink) (net : Net) (steps : List (Net × Step)) (last : KnownNet KnownLink) (counts : KnownCounts) → Knows system first net steps last → IsCounted keeping_no_frame last counts → CountsCalls shown system.config (λ vl. calls_in net vl steps) counts
counts_calls system first net steps last counts knows counted vl place named =
    let at = knows.each vl place named in
    let found = found_pass keeping_no_frame last.net vl system.locks system.config.links last.links place at.pass knows.own named at.there in
    let calls : shown_calls (calls_with keeping_no_frame vl last.links) ≡ calls_in net vl steps = ap (λ (pass : Option KnownLink). shown_calls (calls_of keeping_no_frame pass)) found ∙ at.has_calls in
    let many : length (calls_with keeping_no_frame vl last.links) ≡ length (calls_in net vl steps) = sym (length-map (calls_with keeping_no_frame vl last.links) shown_call) ∙ ap (λ (cs : List Call). length cs) calls in (
      counted.calls vl ∙ ap shown many,
      λ kind is. counted.kinds vl kind is ∙ ap shown (sym (count_shown kind (calls_with keeping_no_frame vl last.links)) ∙ ap (count_calls kind) calls),
    )

counts_filtered : (system : System) (first : KnownNet KnownLink) (net : Net) (steps : List (Net × Step)) (last : KnownNet KnownLink) (counts : KnownCounts) → Knows system first net steps last → IsCounted keeping_no_frame last counts
    → CountsFiltered system.config (frames_in net steps) net counts
counts_filtered system first net steps last counts knows counted kind is = rw (counted.filtered, counted.net, knows.of_net) (knows.filtered net kind is)

-- ---- replies

answered : (system : System) (step : Step) (old new : KnownNet KnownLink) → Does system step old new → IsAnswered system step
answered system (received time octets (replies.Filtered cause)) old new does = does.0
answered system (received time octets (replies.Link at vl place verdict)) old new does = (does.0, does.1)
answered system met old new does = tt

-- ---- altogether

pub ended : (readers : Port → ℕ) (system : System) (first last : BothPasses KnownLink) (ends : List (LinkEnds PartitionEnd)) (steps : List (Net × Step)) (links : List LiveLink) (a b : KnownCounts) → AreOpened readers system first ends
    → Ran system first steps last → HasSettled keeping_no_frame system last links a b → HasEnded readers system steps ends links a b
ended readers system first last ends steps links a b opened ran has_settled =
    let know = both_know readers system first last ends steps opened ran in
    record {
      each = λ vl place named.
          let link = named_at system.config.links vl place named in
          let named_so : link_of system.config.links link.settings.vl ≡ Some place = ap (link_of system.config.links) link.numbered ∙ named in
          let of_a = know.a.each link.settings.vl place named_so in
          let of_b = know.b.each link.settings.vl place named_so in
          let at = settled_at keeping_no_frame system.config.links last.a.links last.b.links links place link.settings of_a.pass of_b.pass has_settled.links link.there of_a.there of_b.there in
          let new = opened.links.new in
          let in_config : AreNewLinks ShowsPort (reads_by ReadsPort readers) system.config.links opened.links.opened.links ends = new.links in
          let its = ends_at readers system.config.links opened.links.opened.links first.a.links ends place link.settings of_a.opened in_config opened.links.known_a link.there of_a.was_there in
          (link.settings, at.link, link.there, link.numbered, at.there, ends_in_one_run readers steps link.settings ends place first last links of_a of_b its at);
      answered = each_call (IsPassOf system) (Does system) (IsAnswered system) (answered system) first last steps ran;
      calls_a = counts_calls system first.a A steps last.a a know.a has_settled.counted_a;
      calls_b = counts_calls system first.b B steps last.b b know.b has_settled.counted_b;
      filtered_a = counts_filtered system first.a A steps last.a a know.a has_settled.counted_a;
      filtered_b = counts_filtered system first.b B steps last.b b know.b has_settled.counted_b;
    }
