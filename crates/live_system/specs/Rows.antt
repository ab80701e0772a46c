-- Frames of several links of a group, which are given in one visit.
use Rattle.std.specs.Prelude.{◌≡◌, ◌<◌, ℕ, List, [], ◌∷◌, Some, slice_get, slice_set}
use Rattle.std.specs.Prelude.{slice_index_or}
use Rattle.std.specs.Borrow.{Bor}
use Rattle.std.specs.List.{All}
use Rattle.es_base.specs.declared.place.Net.{Net}
use Rattle.es_base.specs.declared.verdict.Verdict.{Verdict}
use Rattle.es_base.specs.Addressing.{ComesToPlace, addressee_of}
use Rattle.es_base.specs.Frame.{IsFrame}
use Rattle.es_base.specs.Past.{arrived}
use Rattle.link_core.specs.Counted.{shown}
use Rattle.link_lock.specs.Pass.{LockId}
use Rattle.receiver.specs.declared.receiver.Reply.{Reply}
use Rattle.receiver.specs.declared.receiver.Reply.TheVariants as replies
use Rattle.network_calls.specs.declared.counts.LinkCounts.{LinkCounts}
use Rattle.network_calls.specs.Calls.{call}
use Rattle.network_calls.specs.Passes.{DoesAt, System}
use Rattle.live_system.specs.declared.cut.LinkPlace.{LinkPlace}
use Rattle.live_system.specs.Burst.{CountsOne, StandTogetherAt}
use Rattle.live_system.specs.Chunk.{Entries}
use Rattle.live_system.specs.Calls.{LiveLink}
use Rattle.live_system.specs.Groups.{HasLinkAt, IsInGroup, under}
use Rattle.live_system.specs.Pass.{Did, KnownLink}
use Rattle.live_system.specs.System.{CallsAt}

-- the place in its group of the link with this index
abbrev pub index_at : List LinkPlace → ℕ → ℕ
index_at places at = (slice_index_or places at (record { group = 0; index = 0 })).index

-- each is a frame of the link of the group at its index, and its link is one of so many
abbrev pub AreForLinks : (ℕ → ℕ) → ℕ → List LiveLink → Entries → Type 0
AreForLinks index many links entries = All (λ (e : ℕ × (ℕ × Bor (List ℕ))). (e.0 < many) × IsFrame e.1.1.now × HasLinkAt links (index e.0) (λ link. addressee_of e.1.1.now ≡ link.core.settings.vl)) entries

-- a frame of a link of the group that the pass knows, under this lock
pub record KnowsFor (index : ℕ → ℕ) (many : ℕ) (group : List KnownLink) (lock : LockId) (e : ℕ × (ℕ × Bor (List ℕ))) : Type 0 where
  pub within : e.0 < many
  pub frame : IsFrame e.1.1.now
  pub pass : KnownLink
  pub there : slice_get group (index e.0) ≡ Some pass
  pub at_lock : pass.lock ≡ under lock (index e.0)
  pub link : LiveLink
  pub known : pass.link ≡ Some link
  pub vl : pass.counts.vl ≡ link.core.settings.vl
  pub addressed : addressee_of e.1.1.now ≡ link.core.settings.vl

-- The links of a group took these frames of a network, one after another; of each the place that it shows, and its
-- verdict.
-- rule: CONC-6, EMB-32
abbrev pub TookEach : (ℕ → ℕ) → Net → List LiveLink → Entries → List (ℕ × Verdict) → List LiveLink → Type 0
TookEach index net olds [] [] news = news ≡ olds
TookEach index net olds (e ∷ es) (r ∷ rs) news = (mids : List LiveLink) × DoesAt (λ old new. Did (arrived net e.1.0 e.1.1.now) old new r) olds (index e.0) mids × TookEach index net mids es rs news
TookEach index net olds [] (r ∷ rs) news = ⊥
TookEach index net olds (e ∷ es) [] news = ⊥

-- calls with these answers were counted, each on its link, and replied
abbrev pub CountsEach : (ℕ → ℕ) → Net → List LinkCounts → Entries → List (ℕ × Verdict) → List Reply → List LinkCounts → Type 0
CountsEach index net olds [] [] [] news = news ≡ olds
CountsEach index net olds (e ∷ es) (a ∷ answers) (r ∷ rs) news =
    (old : LinkCounts) × (new : LinkCounts) × (slice_get olds (index e.0) ≡ Some old) × CountsOne net old a.1 new × (r ≡ replies.Link e.0 old.vl a.0 a.1)
    × CountsEach index net (slice_set olds (index e.0) new) es answers rs news
CountsEach index net olds [] [] (r ∷ rs) news = ⊥
CountsEach index net olds [] (a ∷ answers) rs news = ⊥
CountsEach index net olds (e ∷ es) [] rs news = ⊥
CountsEach index net olds (e ∷ es) (a ∷ answers) [] news = ⊥

-- A pass gave these frames to the links of its group, one after another, and these are the replies.
-- rule: CONC-6, EMB-32
abbrev pub CallsEach : (ℕ → ℕ) → List KnownLink → Entries → List Reply → List KnownLink → Type 0
CallsEach index olds [] [] news = news ≡ olds
CallsEach index olds (e ∷ es) (r ∷ rs) news =
    (mids : List KnownLink) × (place : ℕ) × (verdict : Verdict) × (r ≡ replies.Link e.0 (addressee_of e.1.1.now) (shown place) verdict)
    × CallsAt olds (index e.0) (call place e.1.0 e.1.1.now verdict) mids × CallsEach index mids es rs news
CallsEach index olds [] (r ∷ rs) news = ⊥
CallsEach index olds (e ∷ es) [] news = ⊥

-- no other link of these frames has this link's place in the group
abbrev pub IsApart : (ℕ → ℕ) → ℕ → Entries → Type 0
IsApart index at entries = All (λ (e : ℕ × (ℕ × Bor (List ℕ))). index e.0 ≡ index at → e.0 ≡ at) entries

-- the events of each of these frames' links stand together
abbrev pub AllTogether : Entries → List Reply → Type 0
AllTogether entries answers = All (λ (e : ℕ × (ℕ × Bor (List ℕ))). (place : ℕ) × StandTogetherAt e.0 place answers) entries

-- a frame that comes to a link of this group of the system
pub record IsForGroup (system : System) (group : ℕ) (e : ℕ × (ℕ × Bor (List ℕ))) : Type 0 where
  pub frame : IsFrame e.1.1.now
  pub comes : ComesToPlace system.config e.1.1.now e.0
  pub stands : IsInGroup system.locks group e.0
