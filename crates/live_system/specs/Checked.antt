-- What a pass keeps of integrity checking: of each link the sequence numbers of its own calls, which are those of its
-- network's events.
use Rattle.std.specs.Prelude.{◌≡◌, ℕ, Bool, List, [], ◌∷◌, Option, None, Some, map, reverse, slice_get, slice_set}
use Rattle.es_base.specs.declared.place.Net.{Net}
use Rattle.es_base.specs.Frame.{sequence_number_of}
use Rattle.es_base.specs.Settings.{Settings}
use Rattle.link_rules.specs.Integrity.{latest, may_follow, sequence_numbers_on}
use Rattle.integrity_check.specs.Kept.{StandsFor}
use Rattle.link_core.specs.declared.net_checks.NetChecks.{NetChecks}
use Rattle.network_calls.specs.declared.call.Call.{Call}
use Rattle.live_system.specs.Calls.{LiveLink}
use Rattle.live_system.specs.Chunk.{Entries}
use Rattle.live_system.specs.Pass.{KnownLink}

-- the sequence numbers of some calls, the latest first
abbrev pub numbers_of : List Call → List ℕ
numbers_of calls = reverse (map (λ (c : Call). sequence_number_of c.frame) calls)

-- their times, the latest first, and the latest of these
abbrev pub times_of : List Call → List ℕ
times_of calls = reverse (map (λ (c : Call). c.time) calls)

-- rule: EMB-42
abbrev pub latest_of : List Call → Option ℕ
latest_of calls = latest (times_of calls)

-- ---- what the pass knows

-- what is kept of the link of a pass is that of its calls
-- rule: INT-3
pub record IsChecked (pass : KnownLink) (checks : NetChecks) : Type 0 where
  pub numbers : (link : LiveLink) → pass.link ≡ Some link → StandsFor checks.sequence link.core.settings.window (numbers_of pass.calls)
  pub times : checks.latest ≡ latest_of pass.calls

abbrev pub AreChecked : List KnownLink → List NetChecks → Type 0
AreChecked [] [] = Unit {0}
AreChecked (pass ∷ passes) (checks ∷ more) = IsChecked pass checks × AreChecked passes more
AreChecked (pass ∷ passes) [] = ⊥
AreChecked [] (checks ∷ more) = ⊥

-- ---- what that is of the links that it finds

-- what is kept of a network is that of its events on each link
abbrev pub AreStanding : Net → List LiveLink → List NetChecks → Type 0
AreStanding net links checks = (place : ℕ) (link : LiveLink) (c : NetChecks) → slice_get links place ≡ Some link → slice_get checks place ≡ Some c
    → StandsFor c.sequence link.core.settings.window (sequence_numbers_on link.core.past net)

-- ---- frames that are tested

-- a frame with this sequence number that came at this time was tested, and noted
-- rule: INT-2
pub record Tests (old : NetChecks) (number time : ℕ) (passed : Bool) (new : NetChecks) : Type 0 where
  pub passes : (window : ℕ) (numbers : List ℕ) → StandsFor old.sequence window numbers → passed ≡ may_follow window (latest numbers) number
  pub notes : (window : ℕ) (numbers : List ℕ) → StandsFor old.sequence window numbers → StandsFor new.sequence window (number ∷ numbers)
  pub last : new.latest ≡ Some time

-- these frames were tested, one after another, each by what is kept of its link
abbrev pub TestsEach : (ℕ → ℕ) → List NetChecks → Entries → List Bool → List NetChecks → Type 0
TestsEach index olds [] [] news = news ≡ olds
TestsEach index olds (e ∷ es) (passed ∷ more) news =
    (old : NetChecks) × (new : NetChecks) × (slice_get olds (index e.0) ≡ Some old) × Tests old (sequence_number_of e.1.1.now) e.1.0 passed new × TestsEach index (slice_set olds (index e.0) new) es more news
TestsEach index olds [] (passed ∷ more) news = ⊥
TestsEach index olds (e ∷ es) [] news = ⊥

-- ---- the opening

-- what is kept before the first frame, of links with these settings
abbrev pub AreNewChecks : List Settings → List NetChecks → Type 0
AreNewChecks [] [] = Unit {0}
AreNewChecks (settings ∷ links) (checks ∷ more) = (StandsFor checks.sequence settings.window [] × (checks.latest ≡ None)) × AreNewChecks links more
AreNewChecks (settings ∷ links) [] = ⊥
AreNewChecks [] (checks ∷ more) = ⊥
