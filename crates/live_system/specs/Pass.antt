-- What a clause sees of a network's pass on one link.
use Rattle.std.specs.Prelude.{◌≡◌, ℕ, List, [], ◌∷◌, ◌++◌, Option, Some, length}
use Rattle.es_base.specs.declared.event.Arrival.{Arrival}
use Rattle.es_base.specs.declared.place.LinkNo.{LinkNo}
use Rattle.es_base.specs.declared.place.Net.{Net}
use Rattle.es_base.specs.declared.verdict.Verdict.{Verdict}
use Rattle.es_base.specs.Verdict.{verdict_kinds}
use Rattle.es_base.specs.Past.{arrived}
use Rattle.es_base.specs.Settings.{Settings}
use Rattle.es_base.specs.Tally.{IsKind, count_of}
use Rattle.link_core.specs.Counted.{shown}
use Rattle.link_lock.specs.declared.user.User.{User}
use Rattle.link_lock.specs.Lists.{both_lists}
use Rattle.link_lock.specs.Pass.{KnownPass, LockId}
use Rattle.receiver.specs.Link.{OverflowsIfRefused, Takes, TakesIfKnown}
use Rattle.receiver.specs.Port.{AnswersPort, GivesPort, HasSpacePort, RefusesPort, ShowsPort}
use Rattle.network_calls.specs.declared.call.Call.{Call}
use Rattle.network_calls.specs.declared.counts.LinkCounts.{LinkCounts}
use Rattle.network_calls.specs.Calls.{count_calls, user_of}
use Rattle.live_system.specs.Calls.{Agrees, LiveLink, as_opened}

-- the lock of its link, its network, the link as it was opened, its calls, and their counts
pub record KnownLink : Type 0 where
  pub lock : LockId
  pub net : Net
  pub link : Option LiveLink
  pub calls : List Call
  pub counts : LinkCounts

abbrev pub known_link : Net → KnownPass LiveLink (List Call) → LinkCounts → KnownLink
known_link net pass counts = record { lock = pass.lock; net = net; link = pass.fixed; calls = pass.list; counts = counts }

-- One visit of its link by a pass: the link that it found, which is the one that was opened, with what both networks
-- had done by then, and what became of the link.
pub record Visits (pass : KnownLink) (did : LiveLink → LiveLink → Type 0) : Type 0 where
  pub lists : User → List Call
  pub found : LiveLink
  pub left : LiveLink
  pub opened : Some (as_opened found) ≡ pass.link
  pub own : lists (user_of pass.net) ≡ pass.calls
  pub agrees : Agrees lists found
  pub does : did found left

-- ---- a frame

-- What one call did to a link: the place that it shows, and its verdict. Where the queue of the frame's port is known
-- to have room, before or after, the verdict is that with room; a message overflows only where its queue refused it by
-- a look in this call.
abbrev pub Did : Arrival → LiveLink → LiveLink → ℕ × Verdict → Type 0
Did a old new answer =
    Takes ShowsPort GivesPort AnswersPort old new a answer.0 answer.1 × TakesIfKnown HasSpacePort old new a answer.1 × OverflowsIfRefused RefusesPort old new a answer.1

-- One more call, the result of its visit, at its place, and it is counted; nothing else of the pass changes.
-- rule: EMB-30
pub record Calls (old : KnownLink) (c : Call) (new : KnownLink) : Type 0 where
  pub lock : new.lock ≡ old.lock
  pub net : new.net ≡ old.net
  pub link : new.link ≡ old.link
  pub vl : new.counts.vl ≡ old.counts.vl
  pub calls : new.calls ≡ old.calls ++ c ∷ []
  pub visits : Visits old (λ found left. (c.place ≡ length found.core.past) × Did (arrived old.net c.time c.frame) found left (shown c.place, c.verdict))

-- ---- the opening

-- a pass of that network that did nothing, at the lock of this user's pass
pub record IsNoCall (pass : KnownLink) (net : Net) (vl : LinkNo) (user : KnownPass LiveLink (List Call)) : Type 0 where
  pub same_lock : pass.lock ≡ user.lock
  pub same_net : pass.net ≡ net
  pub same_link : pass.link ≡ user.fixed
  pub no_calls : pass.calls ≡ []
  pub same_vl : pass.counts.vl ≡ vl

-- a pass of that network on this new link, with these settings: it did nothing
pub record IsNewPass (settings : Settings) (link : LiveLink) (lock : LockId) (net : Net) (pass : KnownLink) : Type 0 where
  pub of_lock : pass.lock ≡ lock
  pub of_net : pass.net ≡ net
  pub known : pass.link ≡ Some link
  pub calls : pass.calls ≡ []
  pub vl : pass.counts.vl ≡ settings.vl

-- ---- the end

-- State of a link after both networks have let go of it, with the calls of each. It is the link that was opened. Its
-- past is a run, and its ports were given what that delivers. Its events are the calls of both, and are counted as the
-- calls are.
pub record IsSettled (link : Option LiveLink) (a b : List Call) (settled : LiveLink) : Type 0 where
  pub opened : Some (as_opened settled) ≡ link
  pub agrees : Agrees (both_lists a b) settled
  pub counted : (net : Net) (kind : ℕ) → IsKind verdict_kinds kind
      → count_of settled.core.past net kind ≡ count_calls kind (both_lists a b (user_of net))
