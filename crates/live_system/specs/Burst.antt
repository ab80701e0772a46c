-- Frames that are given at once.
use Rattle.std.specs.Prelude.{◌≡◌, ◌⊎◌, ◌<◌, ◌≤◌, ℕ, suc, ◌+◌, ◌==◌, List, [], ◌∷◌, ◌++◌, Some, drop, slice_get, take, if◌then◌else◌}
use Rattle.std.specs.Borrow.{Bor}
use Rattle.es_base.specs.Addressing.{ComesToPlace}
use Rattle.es_base.specs.Config.{Configuration}
use Rattle.es_base.specs.declared.place.Net.{Net}
use Rattle.es_base.specs.declared.verdict.Verdict.{Verdict}
use Rattle.es_base.specs.Tally.{AddsOne, one_more}
use Rattle.es_base.specs.Verdict.{kind_of, verdict_kinds}
use Rattle.link_core.specs.Counted.{shown}
use Rattle.receiver.specs.declared.receiver.Reply.{Reply}
use Rattle.receiver.specs.declared.receiver.Reply.TheVariants as replies
use Rattle.network_calls.specs.declared.counts.LinkCounts.{LinkCounts}
use Rattle.live_system.specs.Run.{Step, received}

-- frames, each with the time at which it came, the first one first
abbrev pub Frames : Type 0
Frames = List (ℕ × Bor (List ℕ))

-- the calls that gave these frames and had these replies, the latest first
abbrev pub steps_in_turn : Frames → List Reply → List Step
steps_in_turn [] answers = []
steps_in_turn (f ∷ fs) [] = []
steps_in_turn (f ∷ fs) (r ∷ rs) = steps_in_turn fs rs ++ received f.0 f.1.now r ∷ []

-- ---- a visit

-- the most frames that are given in one visit, and of a chunk of a burst
-- rule: CONC-6, EMB-32
abbrev pub most_in_row : ℕ
most_in_row = 32

-- one call more was counted, with this verdict
pub record CountsOne (net : Net) (old : LinkCounts) (verdict : Verdict) (new : LinkCounts) : Type 0 where
  pub vl : new.vl ≡ old.vl
  pub number : new.number ≡ one_more old.number
  pub tally : AddsOne verdict_kinds old.tally new.tally net (kind_of verdict)

-- ---- the chunks of a burst

-- the events of these replies stand one after another among their link's, from this place on
-- rule: CONC-6, EMB-32
abbrev pub StandTogether : ℕ → List Reply → Type 0
StandTogether place [] = Unit {0}
StandTogether place (replies.Link at vl shows verdict ∷ later) = (shows ≡ shown place) × StandTogether (suc place) later
StandTogether place (replies.Filtered cause ∷ later) = ⊥

-- the replies of the link at this index
abbrev pub of_link : ℕ → List Reply → List Reply
of_link at [] = []
of_link at (replies.Link index vl shows verdict ∷ later) = if index == at then replies.Link index vl shows verdict ∷ of_link at later else of_link at later
of_link at (replies.Filtered cause ∷ later) = of_link at later

-- the events of this link stand one after another, from this place on, whatever was replied of other links between them
-- rule: CONC-6, EMB-32
abbrev pub StandTogetherAt : ℕ → ℕ → List Reply → Type 0
StandTogetherAt at place answers = StandTogether place (of_link at answers)

-- Of each link the events stand together: no event of the other network stands between them.
-- rule: CONC-6, EMB-32
abbrev pub EachStandsTogether : List Reply → Type 0
EachStandsTogether answers = (at : ℕ) → (place : ℕ) × StandTogetherAt at place answers

-- ---- frames of one link in a row

-- Frames of one link in a row are parted only behind so many of them.
-- rule: CONC-6, EMB-32
abbrev pub fewest_in_row : ℕ
fewest_in_row = 8

-- the frame at this place comes to the link at this index
abbrev pub ComesAt : Configuration → Frames → ℕ → ℕ → Type 0
ComesAt config frames place at = (f : ℕ × Bor (List ℕ)) × (slice_get frames place ≡ Some f) × ComesToPlace config f.1.now at

-- so many frames before this place come to the link
abbrev pub ComeBefore : Configuration → Frames → ℕ → ℕ → ℕ → Type 0
ComeBefore config frames place many at = (many ≤ place) × ((other : ℕ) → place ≤ other + many → other < place → ComesAt config frames other at)

-- if the frames on both sides of this place come to one link, so many before it do
-- rule: CONC-6, EMB-32
abbrev pub PartsLate : Configuration → Frames → ℕ → Type 0
PartsLate config frames place = (before at : ℕ) → suc before ≡ place → ComesAt config frames before at → ComesAt config frames place at → ComeBefore config frames place fewest_in_row at

-- Of the first so many frames, the events of two that stand side by side and come to one link stand side by side among
-- those of the link, unless 8 in a row came to it before the second.
-- rule: CONC-6, EMB-32
abbrev pub AreInRows : Configuration → Frames → List Reply → ℕ → Type 0
AreInRows config frames answers many =
    (place at : ℕ) → suc place < many → ComesAt config frames place at → ComesAt config frames (suc place) at → (ComeBefore config frames (suc place) fewest_in_row at → ⊥)
    → (shows : ℕ) × StandTogetherAt at shows (take 2 (drop place answers))

-- ---- chunks

-- a chunk of so many, of which the last is the one before this place, has 32 at most, and 25 at least but at the end
-- rule: CONC-6, EMB-32
pub record IsChunk (all size place : ℕ) : Type 0 where
  pub some : 0 < size
  pub few : size ≤ most_in_row
  pub many : (most_in_row < size + fewest_in_row) ⊎ (place ≡ all)

-- The replies come in chunks of these sizes, the last one first, and in each the events of each link stand together.
-- rule: CONC-6, EMB-32
abbrev pub AreInChunks : ℕ → List ℕ → List Reply → ℕ → Type 0
AreInChunks all [] answers done = done ≡ 0
AreInChunks all (size ∷ sizes) answers done =
    (before : ℕ) × (done ≡ before + size) × IsChunk all size done × EachStandsTogether (take size (drop before answers)) × AreInChunks all sizes answers before
