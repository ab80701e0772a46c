-- What is asked of the sender and of the two networks. Times are in microseconds.
use Rattle.std.specs.Prelude.{◌≡◌, ◌⊎◌, true, ℕ, suc, ◌+◌, ◌*◌, ◌≤◌, ◌<◌, max, List, [], ◌∷◌, Option, None, Some, if◌then◌else◌}
use Rattle.es_base.specs.declared.place.Net.{Net}
use Rattle.es_base.specs.declared.place.Net.TheVariants as nets
use Rattle.es_base.specs.Age.{elapsed}
use Rattle.es_base.specs.Networks.{is_same_net}
use Rattle.link_rules.specs.Integrity.{latest}
use Rattle.es_base.specs.Settings.{Settings}
use Rattle.frame_delivery.specs.Sending.{Copy, EachCopy, HaveNumbers, Numbering, RunsOn}
use Rattle.frame_delivery.specs.Once.{FirstsInOrder, greatest_index, has_come, newest_time}

-- ---- what comes on each network

-- the indices of the frames of which copies came on a network, the latest first
abbrev pub indices_on : List Copy → Net → List ℕ
indices_on [] net = []
indices_on (copy ∷ before) net = if is_same_net copy.event.net net then copy.index ∷ indices_on before net else indices_on before net

-- the copies that came on a network
abbrev pub copies_on : Net → List Copy → List Copy
copies_on net [] = []
copies_on net (copy ∷ before) = if is_same_net copy.event.net net then copy ∷ copies_on net before else copies_on net before

-- a frame is later than the one before it on its network, if there was one
abbrev pub IsLater : Option ℕ → ℕ → Type 0
IsLater None index = Unit {0}
IsLater (Some before) index = before < index

-- each network brings the frames in the order of sending, and none twice
-- rule: DELIV-4
abbrev pub KeepsOrder : List Copy → Type 0
KeepsOrder copies = EachCopy (λ before copy. IsLater (latest (indices_on before copy.event.net)) copy.index) copies

-- a frame is one of the first `window` after the one before it on its network, with no restart between, or it is the
-- first after a restart
abbrev pub MayFollow : Numbering → ℕ → Option ℕ → ℕ → Type 0
MayFollow numbering window None index = Unit {0}
MayFollow numbering window (Some before) index = ((index ≤ before + window) × RunsOn numbering before index) ⊎ (numbering.restarts index ≡ true)

-- each network loses fewer than `window` frames in a row, and not the first after a restart
-- rule: DELIV-4, DELIV-18
abbrev pub LosesFew : Numbering → ℕ → List Copy → Type 0
LosesFew numbering window copies = EachCopy (λ before copy. MayFollow numbering window (latest (indices_on before copy.event.net)) copy.index) copies

-- one network brings the frames in the order of sending, and loses fewer than `window` in a row, and not the first after
-- a restart, whatever the other brings
pub record BringsInRow (numbering : Numbering) (window : ℕ) (net : Net) (copies : List Copy) : Type 0 where
  pub numbers : HaveNumbers numbering (copies_on net copies)
  pub order : KeepsOrder (copies_on net copies)
  pub losses : LosesFew numbering window (copies_on net copies)

-- ---- how long frames are on their way

-- when a sender sends, and how long a copy is on its way, on either network
pub record Timing : Type 0 where
  -- the time at which the frame with an index is sent
  pub sent : ℕ → ℕ
  -- the least time between two frames, the bandwidth allocation gap (BAG)
  pub gap : ℕ
  -- the least time between the last frame before a restart and the first after it
  pub pause : ℕ
  -- the least and the greatest time that a copy is on its way
  pub least : ℕ
  pub greatest : ℕ
  -- the greatest time by which a copy is taken after one that came later: 0 for one task that gives them in the order
  -- of their times, and for two threads the longest that one waits from its frame's time until its link takes it
  pub wait : ℕ

-- the sender leaves the gap after each frame
abbrev pub KeepsGap : Timing → Type 0
KeepsGap timing = (index : ℕ) → timing.sent index + timing.gap ≤ timing.sent (suc index)

-- and the pause before each restart
abbrev pub KeepsPause : Numbering → Timing → Type 0
KeepsPause numbering timing = (index : ℕ) → numbering.restarts (suc index) ≡ true → timing.sent index + timing.pause ≤ timing.sent (suc index)

-- a copy is on its way no shorter than the least time and no longer than the greatest
abbrev pub IsOnItsWay : Timing → Copy → Type 0
IsOnItsWay timing copy = (timing.sent copy.index + timing.least ≤ copy.event.time) × (copy.event.time ≤ timing.sent copy.index + timing.greatest)

-- the age of a message by the time of its copy, and its age since it was sent: the copy was on its way
-- rule: DELIV-13
abbrev pub HasAge : Timing → ℕ → Copy → Type 0
HasAge timing now copy =
    copy.event.time ≤ now →
    (elapsed now copy.event.time + timing.least ≤ elapsed now (timing.sent copy.index)) × (elapsed now (timing.sent copy.index) ≤ elapsed now copy.event.time + timing.greatest)

-- the time by which all of some copies came
abbrev pub time_of_all : List Copy → ℕ
time_of_all [] = 0
time_of_all (copy ∷ before) = max copy.event.time (time_of_all before)

-- the sender and the networks keep their times, and the copies are listed in the order in which they are taken, which
-- is that of their times but for the wait
pub record KeepsTimes (numbering : Numbering) (timing : Timing) (copies : List Copy) : Type 0 where
  pub gaps : KeepsGap timing
  pub pauses : KeepsPause numbering timing
  pub ways : EachCopy (λ before copy. IsOnItsWay timing copy) copies
  pub order : EachCopy (λ before copy. time_of_all before ≤ copy.event.time + timing.wait) copies

-- SkewMax fits the networks: the times on the way differ by no more than it, and it is over before the sender
-- restarts
-- rule: DELIV-16
pub record FitsSkew (timing : Timing) (skew_max : ℕ) : Type 0 where
  pub covers : timing.greatest ≤ timing.least + skew_max
  pub restarts : timing.greatest + skew_max < timing.least + timing.pause

-- no copy is taken so late that 128 frames more, or the first after a restart, came before it (a sender that keeps the
-- gap leaves it before a restart, too)
-- rule: DELIV-3
pub record IsNeverLate (timing : Timing) : Type 0 where
  pub frames : timing.greatest + timing.wait < timing.least + 128 * timing.gap
  pub restarts : timing.greatest + timing.wait < timing.least + max timing.gap timing.pause

-- SkewMax is over before 128 frames more are sent
-- rule: DELIV-1
abbrev pub IsOverSoon : Timing → ℕ → Type 0
IsOverSoon timing skew_max = timing.greatest + skew_max < timing.least + 128 * timing.gap

-- a network begins with a frame, or comes back with it after it brought none of 127 frames or more
abbrev pub IsAfterCut : Option ℕ → ℕ → Type 0
IsAfterCut None index = Unit {0}
IsAfterCut (Some before) index = before + 127 < index

-- a network that begins with a copy, or comes back with it, does so with one of the 127 frames after the newest that
-- came, or after SkewMax is over, or with an earlier frame
abbrev pub BeginsNear : ℕ → List Copy → Copy → Type 0
BeginsNear skew_max [] copy = Unit {0}
BeginsNear skew_max (other ∷ before) copy =
    IsAfterCut (latest (indices_on (other ∷ before) copy.event.net)) copy.index → copy.event.time ≤ newest_time (other ∷ before) + skew_max
    → copy.index ≤ greatest_index (other ∷ before) + 127

-- rule: DELIV-1
abbrev pub BeginNear : ℕ → List Copy → Type 0
BeginNear skew_max copies = EachCopy (BeginsNear skew_max) copies

-- no copy of a frame comes after a copy of a later frame: the times on the way, and the wait, differ by less than the
-- gap
-- rule: DELIV-17
abbrev pub HasNoOvertaking : Timing → Type 0
HasNoOvertaking timing = timing.greatest + timing.wait < timing.least + timing.gap

-- ---- where each network keeps the order

-- the least and the greatest time that a copy is on its way on a network
pub record Delays : Type 0 where
  pub least : Net → ℕ
  pub greatest : Net → ℕ

abbrev pub KeepsDelays : Timing → Delays → List Copy → Type 0
KeepsDelays timing delays copies =
    EachCopy (λ before copy. (timing.sent copy.index + delays.least copy.event.net ≤ copy.event.time) × (copy.event.time ≤ timing.sent copy.index + delays.greatest copy.event.net)) copies

-- a network loses no frame that another brings: it brought each of them that is earlier than one that it brought
abbrev pub LosesNoneOf : Net → Net → List Copy → Type 0
LosesNoneOf net other copies =
    (index later : ℕ) → index < later → has_come index (copies_on other copies) ≡ true → has_come later (copies_on net copies) ≡ true → has_come index (copies_on net copies) ≡ true

-- no first copy on a network comes after a copy of a later frame on another: that one loses none of its frames, or isn't
-- faster by the gap
abbrev pub KeepsBefore : Timing → Delays → Net → Net → List Copy → Type 0
KeepsBefore timing delays net other copies = (delays.greatest net + timing.wait < delays.least other + timing.gap) ⊎ LosesNoneOf other net copies

-- the networks keep the order, each by itself, and each before the other
-- rule: DELIV-17
pub record KeepOrderTogether (timing : Timing) (delays : Delays) (copies : List Copy) : Type 0 where
  pub gaps : KeepsGap timing
  pub order : KeepsOrder copies
  pub ways : KeepsDelays timing delays copies
  pub taken : EachCopy (λ before copy. time_of_all before ≤ copy.event.time + timing.wait) copies
  pub a : KeepsBefore timing delays nets.A nets.B copies
  pub b : KeepsBefore timing delays nets.B nets.A copies

-- ---- altogether

-- copies of a sender's frames come at times that fit the settings of their link
-- rule: DELIV-3
pub record ComeTimely (settings : Settings) (numbering : Numbering) (timing : Timing) (copies : List Copy) : Type 0 where
  pub redundancy : settings.redundancy ≡ true
  pub first : numbering.first ≤ 255
  pub numbers : HaveNumbers numbering copies
  pub times : KeepsTimes numbering timing copies
  pub fits : FitsSkew timing settings.skew_max

-- and on networks that begin near each other and lose few in a row; no copy is too late, and the first copies come in
-- order
-- rule: DELIV-6
pub record ComeWhole (settings : Settings) (numbering : Numbering) (timing : Timing) (copies : List Copy) : Type 0 where
  pub timely : ComeTimely settings numbering timing copies
  pub near : BeginNear settings.skew_max copies
  pub losses : LosesFew numbering settings.window copies
  pub on_time : IsNeverLate timing
  pub firsts : FirstsInOrder copies
