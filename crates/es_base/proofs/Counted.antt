-- A tally, and the past or the frames that it counts.
use Rattle.std.proofs.Common.{◌≡◌, ℕ, ◌+◌, ◌-◌, ◌^◌, ◌<◌, ◌≤◌, true, false, List, [], ◌∷◌, length, Err, refl, ⊎_elim, arith}
use Rattle.std.proofs.Math.Nat.{min-eq_left}
use Rattle.std.proofs.lemmas.Bool.{cases_Bool}
use Rattle.es_base.specs.declared.place.Net.{Net}
use Rattle.es_base.specs.declared.fault.FilterCause.{FilterCause}
use Rattle.es_base.specs.declared.event.Arrival.{Arrival}
use Rattle.es_base.specs.declared.event.Event.{Event}
use Rattle.es_base.specs.Config.{Configuration}
use Rattle.es_base.specs.Addressing.{addressed_link}
use Rattle.es_base.specs.FilterTally.{HasFiltered, cause_kind}
use Rattle.es_base.specs.Limits.{filter_causes}
use Rattle.es_base.specs.Tally.{AddsOne, Counts, HasCounts, count_of, is_counted, one_more}
use Rattle.es_base.specs.Verdict.{kind_of, verdict_kinds}

-- ---- events

-- no count is greater than the number of events, with what was counted before them
pub count_at_most : (past : List Event) (net : Net) (kind : ℕ) → count_of past net kind ≤ length past
count_at_most [] net kind = omega arith
count_at_most (e ∷ past) net kind =
    let fewer = count_at_most past net kind in
    ⊎_elim
    (λ (is : is_counted net kind e ≡ true). rw is (omega (arith, fewer)))
    (λ (is : is_counted net kind e ≡ false). rw is (omega (arith, fewer)))
    (cases_Bool (is_counted net kind e))

-- so none stops
none_stops : (past : List Event) (net : Net) (kind : ℕ) → length past < 2 ^ 64 - 1
    → one_more (count_of past net kind) ≡ count_of past net kind + 1
none_stops past net kind short =
    let fewer = count_at_most past net kind in
    min-eq_left (omega (arith, fewer, short))

-- a tally that has one more of an event's kind counts the event
pub one_event_more : (old new : Counts) (past : List Event) (e : Event) → HasCounts old past → length past < 2 ^ 64 - 1
    → AddsOne verdict_kinds old new e.net (kind_of e.verdict) → HasCounts new (e ∷ past)
one_event_more old new past e has short adds net kind is =
    rw (adds net kind is, has net kind is, none_stops past net kind short) refl

-- ---- filtered frames

-- a tally that has one more of a frame's cause counts the frame
pub one_frame_more : (old new : Counts) (c : Configuration) (earlier : List Arrival) (a : Arrival) (cause : FilterCause) → HasFiltered old c earlier
    → addressed_link c a.frame ≡ Err cause → AddsOne filter_causes old new a.net (cause_kind cause) → HasFiltered new c (a ∷ earlier)
one_frame_more old new c earlier a cause has filtered adds net kind is =
    rw (adds net kind is, has net kind is, filtered) refl
