-- Schedules that go wrong without a rule.
use Rattle.std.proofs.Common.{◌≡◌, ℕ, zero, suc, ◌<◌, Bool, true, ◌&&◌, nat_lt, List, [], ◌∷◌, ◌++◌, length, Option, None, Some, is_none, refl, arith, inl, inr, lit<}
use Rattle.std.proofs.lemmas.Bool.{and_parts, ltb-true}
use Rattle.slot_core.specs.declared.event.CoreEvent.{CoreEvent}
use Rattle.slot_core.specs.declared.event.CoreEvent.TheVariants.{Scan, StoreWord, StoreLatest, LoadFirst, Announce, LoadSecond}
use Rattle.slot_core.specs.Words.{word_for}
use Rattle.slot_core.specs.State.{State, opening}
use Rattle.slot_core.specs.Steps.{after_event, after_all}
use Rattle.slot_core.specs.Allowed.{Allowed, AreAllowed}
use Rattle.slot_core.specs.Refusal.{refusal_of}
use Rattle.slot_core.specs.Without.{AllowedEarly, AreAllowedBy, FailsEarly, FailsInHaste, GetsStuck, after_all_by, after_in_haste}
use Rattle.slot_core.proofs.Refusals.{allowed_if, passes_if}

none_is : {X : Type 0} (o : Option X) → is_none o ≡ true → o ≡ None
none_is None e = refl
none_is (Some x) e = absurd (cc)

abbrev pass : (State → CoreEvent → Bool) → (State → CoreEvent → State) → State → List CoreEvent → Bool
pass test step c [] = true
pass test step c (event ∷ events) = test c event && pass test step (step c event) events

allowed_by : (May : State → CoreEvent → Type 0) (step : State → CoreEvent → State) (test : State → CoreEvent → Bool)
    → ((c : State) (event : CoreEvent) → test c event ≡ true → May c event)
    → (c : State) (events : List CoreEvent) → pass test step c events ≡ true → AreAllowedBy May step c events
allowed_by May step test sound c [] e = tt
allowed_by May step test sound c (event ∷ events) e =
    let parts = and_parts (test c event) (pass test step (step c event) events) e in
    (sound c event parts.0, allowed_by May step test sound (step c event) events parts.1)

module _ (readers slots : ℕ) where
  is_allowed : State → CoreEvent → Bool
  is_allowed c event = is_none (refusal_of readers slots c event)

  allowed_is : (c : State) (event : CoreEvent) → is_allowed c event ≡ true → Allowed readers slots c event
  unfolding is_allowed
  allowed_is c event e = allowed_if readers slots c event (none_is (refusal_of readers slots c event) e)

-- ---- parts of schedules

abbrev scans : List CoreEvent
scans = Scan 0 ∷ Scan 1 ∷ Scan 2 ∷ Scan 3 ∷ Scan 4 ∷ Scan 5 ∷ Scan 6 ∷ Scan 7 ∷ []

-- a message of 0 octets and time 0
abbrev writes : ℕ → List CoreEvent
writes slot = StoreWord slot 0 0 ∷ StoreWord slot 1 0 ∷ []

abbrev publishes : ℕ → List CoreEvent
publishes slot = scans ++ writes slot ++ StoreLatest ∷ []

abbrev reads : ℕ → List CoreEvent
reads reader = LoadFirst reader ∷ Announce reader ∷ LoadSecond reader ∷ []

-- ---- without the second look

in_haste : List CoreEvent
in_haste = publishes 0 ++ scans ++ writes 1 ++ LoadFirst 0 ∷ StoreLatest ∷ [] ++ scans ++ Announce 0 ∷ []

pub fails_in_haste : FailsInHaste 8 10
unfolding in_haste is_allowed
fails_in_haste =
    let start : State = opening 8 10 in
    let step : State → CoreEvent → State = after_in_haste 8 in (
      after_all_by step start in_haste,
      (
        (in_haste, (allowed_by (Allowed 8 10) step (is_allowed 8 10) (allowed_is 8 10) start in_haste refl, refl)),
        (0, word_for 1 0, 0, 0, (lit< tt, refl), allowed_is 8 10 (after_all_by step start in_haste) (StoreWord 0 0 0) refl, refl),
      ),
    )

-- ---- `latest` stored before the last word

is_early : State → CoreEvent → Bool
is_early c StoreLatest = nat_lt 0 (length c.writer.stored)
is_early c event = is_allowed 8 10 c event

early_is : (c : State) (event : CoreEvent) → is_early c event ≡ true → AllowedEarly 8 10 c event
unfolding is_early
early_is c StoreLatest e = inr (refl, ltb-true 0 (length c.writer.stored) e)
early_is c event e = inl (allowed_is 8 10 c event e)

early : List CoreEvent
early = scans ++ StoreWord 0 0 0 ∷ StoreLatest ∷ [] ++ reads 0

pub fails_early : FailsEarly 8 10
unfolding early is_early is_allowed
fails_early =
    let start : State = opening 8 10 in (
      after_all_by (after_event 8) start early,
      (
        (early, (allowed_by (AllowedEarly 8 10) (after_event 8) is_early early_is start early refl, refl)),
        (0, word_for 1 0, (lit< tt, refl), λ has. let whole : 1 ≡ 2 = has.0.whole in absurd (omega (arith, whole))),
      ),
    )

-- ---- with nine slots

all_hold : List CoreEvent
all_hold =
    publishes 0 ++ reads 0
    ++ publishes 1 ++ reads 1
    ++ publishes 2 ++ reads 2
    ++ publishes 3 ++ reads 3
    ++ publishes 4 ++ reads 4
    ++ publishes 5 ++ reads 5
    ++ publishes 6 ++ reads 6
    ++ publishes 7 ++ reads 7
    ++ publishes 8 ++ scans

are_allowed : (c : State) (events : List CoreEvent) → pass (is_allowed 8 9) (after_event 8) c events ≡ true → AreAllowed 8 9 c events
are_allowed c [] e = tt
are_allowed c (event ∷ events) e =
    let parts = and_parts (is_allowed 8 9 c event) (pass (is_allowed 8 9) (after_event 8) (after_event 8 c event) events) e in
    (allowed_is 8 9 c event parts.0, are_allowed (after_event 8 c event) events parts.1)

all_held : State
all_held = after_all 8 (opening 8 9) all_hold

none_free : (slot : ℕ) → slot < 9 → refusal_of 8 9 all_held (StoreWord slot 0 0) ≡ None → ⊥
unfolding all_held all_hold
none_free zero h e = cc
none_free (suc zero) h e = cc
none_free (suc (suc zero)) h e = cc
none_free (suc (suc (suc zero))) h e = cc
none_free (suc (suc (suc (suc zero)))) h e = cc
none_free (suc (suc (suc (suc (suc zero))))) h e = cc
none_free (suc (suc (suc (suc (suc (suc zero)))))) h e = cc
none_free (suc (suc (suc (suc (suc (suc (suc zero))))))) h e = cc
none_free (suc (suc (suc (suc (suc (suc (suc (suc zero)))))))) h e = cc
none_free (suc (suc (suc (suc (suc (suc (suc (suc (suc slot))))))))) h e = absurd (omega (arith, h))

pub gets_stuck : GetsStuck 8 9
unfolding all_held all_hold is_allowed
gets_stuck = (
  all_held,
  (
    (all_hold, (are_allowed (opening 8 9) all_hold refl, refl)),
    (
      refl,
      refl,
      λ free.
          let may = free.1 0 (omega arith) in
          none_free free.0 may.exists (passes_if 8 9 all_held (StoreWord free.0 0 0) may),
    ),
  ),
)
