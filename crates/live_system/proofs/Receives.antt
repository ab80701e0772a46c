-- A frame that comes to one link of a group.
use Rattle.std.proofs.Common.{◌≡◌, ℕ, List, map, set, Some}
use Rattle.std.specs.List.{slice_get}
use Rattle.es_base.specs.declared.place.Net.{Net}
use Rattle.es_base.specs.declared.verdict.Verdict.{Verdict}
use Rattle.es_base.specs.Past.{arrived}
use Rattle.link_core.specs.Counted.{shown}
use Rattle.link_lock.specs.declared.user.User.{User}
use Rattle.link_lock.specs.Pass.{MayFind, MayLeave, Visited}
use Rattle.network_calls.specs.declared.call.Call.{Call}
use Rattle.network_calls.specs.declared.counts.LinkCounts.{LinkCounts}
use Rattle.network_calls.specs.Calls.{call, user_of}
use Rattle.network_calls.specs.Passes.{DoesAt}
use Rattle.live_system.specs.Burst.{CountsOne}
use Rattle.live_system.specs.Calls.{Agrees, LiveLink, as_opened, goes_on}
use Rattle.live_system.specs.Groups.{AgreeEach, GroupUser, IsOfGroup, go_on, known_links, pass_at}
use Rattle.live_system.specs.Pass.{Did, known_link}
use Rattle.live_system.specs.System.{CallsAt}
use Rattle.live_system.proofs.Groups.{found_there, leaves_at, link_found, lists_at, of_link, only_there, still_group}
use Rattle.live_system.proofs.Visits.{called, leaves_taken, still_counted}

-- one link of a group took this frame
abbrev pub TakesOne : Net → ℕ → ℕ → List ℕ → ℕ × Verdict → List LiveLink → List LiveLink → Type 0
TakesOne net at now octets answer found left = DoesAt (λ old new. Did (arrived net now octets) old new answer) found at left

pub may_leave : (net : Net) (pass : GroupUser) (lists : User → List (List Call)) (found left : List LiveLink) (at now : ℕ) (octets : List ℕ) (answer : ℕ × Verdict) → pass.user ≡ user_of net → MayFind (map as_opened) AgreeEach pass lists found
    → TakesOne net at now octets answer found left → MayLeave (map as_opened) AgreeEach go_on pass lists found left
may_leave net pass lists found left at now octets answer user finds done =
    leaves_at pass lists found left at (λ old new. Did (arrived net now octets) old new answer) finds done
    (leaves_taken net (pass_at pass at) (lists_at lists at) done.before done.after now octets answer user (link_found pass lists found finds at done.before done.there) done.does)

module _ (net : Net) (pass last : GroupUser) (counts : List LinkCounts) (group : IsOfGroup net pass counts) (did : List LiveLink → List LiveLink → Type 0) (visit : Visited (map as_opened) AgreeEach go_on did pass last)
    (at now : ℕ) (octets : List ℕ) (answer : ℕ × Verdict) (done : TakesOne net at now octets answer visit.found visit.left) (old new : LinkCounts) (was : slice_get counts at ≡ Some old) (one : CountsOne net old answer.1 new) where
  abbrev Step : LiveLink → LiveLink → Type 0
  Step before after = Did (arrived net now octets) before after answer

  abbrev of_this : Visited as_opened Agrees goes_on Step (pass_at pass at) (pass_at last at)
  of_this = of_link did pass last visit at Step done

  pub group_after : IsOfGroup net last (set counts at new)
  group_after =
      still_group net did pass last visit at Step done counts group old new was
      (still_counted net (pass_at pass at) (pass_at last at) Step of_this now octets answer done.does group.user old new one (group.counted at old was)).1

  pub calls_after : (place : ℕ) × (answer.0 ≡ shown place) × CallsAt (known_links net pass 0 counts) at (call place now octets answer.1) (known_links net last 0 (set counts at new))
  calls_after =
      let here = called net (pass_at pass at) (pass_at last at) Step of_this now octets answer done.does group.user old new one in (
        here.0,
        here.1,
        record {
          before = known_link net (pass_at pass at) old;
          after = known_link net (pass_at last at) new;
          there = found_there net did pass last visit at Step done counts group old new was;
          does = here.2;
          only = only_there net did pass last visit at Step done counts group old new was;
        },
      )
