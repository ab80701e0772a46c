-- What the times of the sender and of the networks give.
use Rattle.std.proofs.Common.{◌≡◌, ◌∙◌, ap, ℕ, zero, suc, ◌+◌, ◌-◌, ◌*◌, ◌<◌, ◌≤◌, true, false, List, [], ◌∷◌, Option, None, Some, ⊎_elim, arith}
use Rattle.std.specs.Prelude.{max}
use Rattle.std.proofs.lemmas.Bool.{cases_Bool, cases_lt, lt-ltb, le-ltb, ltb-false}
use Rattle.link_rules.specs.Integrity.{latest}
use Rattle.frame_delivery.specs.Sending.{Copy, EachCopy, Numbering, RunsOn}
use Rattle.frame_delivery.specs.Once.{ComesInTime, IsInTime, FirstsInOrder, IsNotOvertaken, greatest_index, has_come, newest_time}
use Rattle.frame_delivery.specs.Network.{BeginNear, BeginsNear, IsAfterCut, IsNeverLate, FitsSkew, HasNoOvertaking, IsOnItsWay, IsOverSoon, KeepsGap, KeepsPause, KeepsTimes, Timing, indices_on, time_of_all}
use Rattle.frame_delivery.proofs.Firsts.{latest_has_come}
use Rattle.frame_delivery.proofs.Passing.{IsAtMost, latest_at_most}

-- a frame of which a copy may be taken after one of another is at most 127 before that, with no restart between
abbrev pub AreNotLate : Numbering → Timing → Type 0
AreNotLate numbering timing =
    (index other : ℕ) → timing.sent other + timing.least ≤ timing.sent index + timing.greatest + timing.wait → (other ≤ index + 127) × RunsOn numbering index other

-- a copy that comes while SkewMax runs is of one of the 127 frames after the newest, or of an earlier one
pub near_the_newest : (skew_max : ℕ) (other : Copy) (before : List Copy) (copy : Copy) → BeginsNear skew_max (other ∷ before) copy
    → copy.event.time ≤ newest_time (other ∷ before) + skew_max → copy.index ≤ greatest_index (other ∷ before) + 127
near_the_newest skew_max other before copy near soon =
    go (latest (indices_on (other ∷ before) copy.event.net)) (latest_at_most (other ∷ before) copy.event.net) near
  where
    go : (last : Option ℕ) → IsAtMost last (greatest_index (other ∷ before))
        → (IsAfterCut last copy.index → copy.event.time ≤ newest_time (other ∷ before) + skew_max → copy.index ≤ greatest_index (other ∷ before) + 127)
        → copy.index ≤ greatest_index (other ∷ before) + 127
    go None most near = near tt soon
    go (Some last) most near =
        ⊎_elim
        (λ (cut : last + 127 < copy.index). near cut soon)
        (λ (close : copy.index ≤ last + 127). omega (arith, close, most))
        (cases_lt (last + 127) copy.index)

-- where no copy overtakes, none is late
pub apart_not_late : (timing : Timing) → HasNoOvertaking timing → IsNeverLate timing
apart_not_late timing apart = record { frames = omega (arith, apart); restarts = omega (arith, apart) }

-- ---- the times of sending

module _ (numbering : Numbering) (timing : Timing) (gaps : KeepsGap timing) (pauses : KeepsPause numbering timing) where
  -- d frames take d gaps at least
  pub sent_after : (index d : ℕ) → timing.sent index + d * timing.gap ≤ timing.sent (index + d)
  sent_after index zero = let e : index + 0 ≡ index = omega arith in rw e (omega arith)
  sent_after index (suc d) =
      let e : index + suc d ≡ suc (index + d) = omega arith in
      let before = sent_after index d in
      let gap = gaps (index + d) in
      rw e (omega (arith, before, gap))

  pub sent_in_order : (one two : ℕ) → one ≤ two → timing.sent one ≤ timing.sent two
  sent_in_order one two order =
      let e : one + (two - one) ≡ two = omega arith in
      let after = rw e at (sent_after one (two - one)) in
      omega (arith, after)

  pub sent_apart : (one two : ℕ) → one < two → timing.sent one + timing.gap ≤ timing.sent two
  sent_apart one two order =
      let after = sent_in_order (suc one) two (omega arith) in
      let gap = gaps one in
      omega (arith, after, gap)

  sent_far_apart : (one two : ℕ) → one + 128 ≤ two → timing.sent one + 128 * timing.gap ≤ timing.sent two
  sent_far_apart one two order =
      let after = sent_in_order (one + 128) two order in
      let gap = sent_after one 128 in
      omega (arith, after, gap)

  -- between two frames with a restart after the one and up to the other the sender paused
  pub sent_around : (one again two : ℕ) → one < again → again ≤ two → numbering.restarts again ≡ true → timing.sent one + timing.pause ≤ timing.sent two
  sent_around one zero two after within is = absurd (omega arith)
  sent_around one (suc again) two after within is =
      let before = sent_in_order one again (omega arith) in
      let pause = pauses again is in
      let later = sent_in_order (suc again) two within in
      omega (arith, before, pause, later)

  runs_on : (one two : ℕ) → timing.sent two < timing.sent one + max timing.gap timing.pause → RunsOn numbering one two
  runs_on one two soon index after within =
      ⊎_elim
      (λ (again : numbering.restarts index ≡ true).
      let paused = sent_around one index two after within again in
      let apart = sent_apart one two (omega (arith, after, within)) in
      absurd (omega (arith, paused, apart, soon)))
      (λ (on : numbering.restarts index ≡ false). on)
      (cases_Bool (numbering.restarts index))

  -- ---- how late a copy may be taken

  pub not_late : IsNeverLate timing → AreNotLate numbering timing
  not_late on_time index other near =
      let frames = on_time.frames in
      let restarts = on_time.restarts in (
        ⊎_elim
            (λ (far : index + 127 < other).
            let sent = sent_far_apart index other (omega arith) in
            absurd (omega (arith, near, frames, sent)))
            (λ (close : other ≤ index + 127). close)
            (cases_lt (index + 127) other),
        runs_on index other (omega (arith, near, restarts)),
      )

  -- ---- the times of copies

  -- the newest copy came in its time
  newest_in_time : (copy : Copy) (before : List Copy) → EachCopy (λ before copy. IsOnItsWay timing copy) (copy ∷ before)
      → (timing.sent (greatest_index (copy ∷ before)) + timing.least ≤ newest_time (copy ∷ before))
      × (newest_time (copy ∷ before) ≤ timing.sent (greatest_index (copy ∷ before)) + timing.greatest)
      × (timing.sent (greatest_index (copy ∷ before)) + timing.least ≤ time_of_all (copy ∷ before))
  newest_in_time copy [] ways =
      let e : max copy.index 0 ≡ copy.index = omega arith in
      let (soonest, latest) = ways.0 in
      rw e (omega arith, omega arith, omega arith)
  newest_in_time copy (other ∷ before) ways =
      let (one, two, three) = newest_in_time other before ways.1 in
      let (soonest, latest) = ways.0 in
      ⊎_elim
      (λ (less : greatest_index (other ∷ before) < copy.index).
      let e : max copy.index (greatest_index (other ∷ before)) ≡ copy.index = omega arith in
      let order = sent_in_order (greatest_index (other ∷ before)) copy.index (omega arith) in
      rw (lt-ltb (greatest_index (other ∷ before)) copy.index less, e) (omega arith, omega arith, omega arith))
      (λ (more : copy.index ≤ greatest_index (other ∷ before)).
      let e : max copy.index (greatest_index (other ∷ before)) ≡ greatest_index (other ∷ before) = omega arith in
      rw (le-ltb (greatest_index (other ∷ before)) copy.index more, e) (one, two, omega arith))
      (cases_lt (greatest_index (other ∷ before)) copy.index)

  in_time : (skew_max : ℕ) (other : Copy) (before : List Copy) (copy : Copy) → FitsSkew timing skew_max → AreNotLate numbering timing
      → (copy.event.time ≤ newest_time (other ∷ before) + skew_max → copy.index ≤ greatest_index (other ∷ before) + 127)
      → EachCopy (λ before copy. IsOnItsWay timing copy) (other ∷ before)
      → IsOnItsWay timing copy → time_of_all (other ∷ before) ≤ copy.event.time + timing.wait → IsInTime numbering skew_max (other ∷ before) copy
  in_time skew_max other before copy fits on_time near ways way order =
      let all = other ∷ before in
      let (soonest, latest, received) = newest_in_time other before ways in
      let greatest : ℕ = greatest_index all in
      let covers = fits.covers in
      let restarts = fits.restarts in
      let not_behind = on_time copy.index greatest (omega (arith, way.1, received, order)) in
      record {
        late = λ not_new.
            let old : copy.index ≤ greatest = ltb-false greatest copy.index not_new in
            let sent = sent_in_order copy.index greatest old in
            omega (arith, way.1, soonest, covers, sent);
        after = λ soon. (near soon, runs_on greatest copy.index (omega (arith, way.0, latest, restarts, soon)));
        behind = λ soon. not_behind;
      }

  pub all_in_time : (skew_max : ℕ) (copies : List Copy) → FitsSkew timing skew_max → AreNotLate numbering timing → BeginNear skew_max copies → EachCopy (λ before copy. IsOnItsWay timing copy) copies
      → EachCopy (λ before copy. time_of_all before ≤ copy.event.time + timing.wait) copies → EachCopy (ComesInTime numbering skew_max) copies
  all_in_time skew_max [] fits on_time near ways order = tt
  all_in_time skew_max (copy ∷ []) fits on_time near ways order = (tt, tt)
  all_in_time skew_max (copy ∷ other ∷ before) fits on_time near ways order = (
    in_time skew_max other before copy fits on_time (near_the_newest skew_max other before copy near.0) ways.1 ways.0 order.0,
    all_in_time skew_max (other ∷ before) fits on_time near.1 ways.1 order.1,
  )

  -- ---- where networks begin

  -- where SkewMax is over soon, each network begins near the other
  begins_near : (skew_max : ℕ) (copy : Copy) (before : List Copy) → IsOverSoon timing skew_max → EachCopy (λ before copy. IsOnItsWay timing copy) before → IsOnItsWay timing copy → BeginsNear skew_max before copy
  begins_near skew_max copy [] over ways way = tt
  begins_near skew_max copy (other ∷ before) over ways way = λ cut soon.
      let greatest : ℕ = greatest_index (other ∷ before) in
      let (soonest, latest, received) = newest_in_time other before ways in
      ⊎_elim
      (λ (far : greatest + 127 < copy.index).
      let sent = sent_far_apart greatest copy.index (omega arith) in
      absurd (omega (arith, way.0, latest, over, sent, soon)))
      (λ (near : copy.index ≤ greatest + 127). near)
      (cases_lt (greatest + 127) copy.index)

  pub begin_near : (skew_max : ℕ) (copies : List Copy) → IsOverSoon timing skew_max → EachCopy (λ before copy. IsOnItsWay timing copy) copies → BeginNear skew_max copies
  begin_near skew_max [] over ways = tt
  begin_near skew_max (copy ∷ before) over ways = (begins_near skew_max copy before over ways.1 ways.0, begin_near skew_max before over ways.1)

  -- ---- no copy overtakes

  not_overtaken : (copy : Copy) (before : List Copy) → HasNoOvertaking timing → EachCopy (λ before copy. IsOnItsWay timing copy) before → IsOnItsWay timing copy
      → time_of_all before ≤ copy.event.time + timing.wait → IsNotOvertaken before copy
  not_overtaken copy [] apart ways way order = λ old. cc
  not_overtaken copy (other ∷ before) apart ways way order = λ old.
      let greatest : ℕ = greatest_index (other ∷ before) in
      let (soonest, latest, received) = newest_in_time other before ways in
      let at_most : copy.index ≤ greatest = ltb-false greatest copy.index old in
      ⊎_elim
      (λ (less : copy.index < greatest).
      let sent = sent_apart copy.index greatest less in
      absurd (omega (arith, way.1, received, sent, order, apart)))
      (λ (more : greatest ≤ copy.index).
      let e : copy.index ≡ greatest = omega arith in
      ap (λ (index : ℕ). has_come index (other ∷ before)) e ∙ latest_has_come other before)
      (cases_lt copy.index greatest)

  pub none_overtaken : (copies : List Copy) → HasNoOvertaking timing → EachCopy (λ before copy. IsOnItsWay timing copy) copies
      → EachCopy (λ before copy. time_of_all before ≤ copy.event.time + timing.wait) copies → FirstsInOrder copies
  none_overtaken [] apart ways order = tt
  none_overtaken (copy ∷ before) apart ways order = (not_overtaken copy before apart ways.1 ways.0 order.0, none_overtaken before apart ways.1 order.1)

pub short_firsts : (numbering : Numbering) (timing : Timing) (copies : List Copy) → KeepsTimes numbering timing copies → HasNoOvertaking timing → FirstsInOrder copies
short_firsts numbering timing copies times apart = none_overtaken numbering timing times.gaps times.pauses copies apart times.ways times.order
