-- SkewMax runs from each frame that was forwarded.
use Rattle.std.proofs.Common.{◌≡◌, ◌∙◌, ap, ℕ, ◌+◌, ◌<◌, ◌≤◌, inl, inr, Bool, true, false, not, List, [], ◌∷◌, refl, ⊎_elim, arith}
use Rattle.std.specs.Prelude.{◌&&◌, ◌⊎◌, max}
use Rattle.std.proofs.lemmas.Bool.{and_right, cases_Bool, le-ltb, lt-ltb, or_from, or_left}
use Rattle.es_base.specs.declared.event.Arrival.{Arrival}
use Rattle.es_base.specs.declared.event.Event.{Event}
use Rattle.es_base.specs.Frame.{sequence_number_of}
use Rattle.es_base.specs.Past.{arrival_of}
use Rattle.link_rules.specs.Integrity.{passes}
use Rattle.es_base.specs.Age.{elapsed}
use Rattle.link_rules.specs.Copies.{Forwarded, greatest_time, is_ahead, is_first_copy}
use Rattle.link_rules.specs.Redundancy.{forwarded, is_forwarded}
use Rattle.es_base.specs.Settings.{Settings}
use Rattle.frame_delivery.specs.Running.{EachForwarded, SomeForwarded}

-- ---- the greatest time of those that were forwarded

pub all_over : (settings : Settings) (now : ℕ) (past : List Event) → EachForwarded settings (λ e. e.time + settings.skew_max < now) past
    → (forwarded settings past ≡ []) ⊎ (greatest_time (forwarded settings past) + settings.skew_max < now)
all_over settings now [] each = inl refl
all_over settings now (e ∷ past) each =
    let rest = all_over settings now past each.1 in
    ⊎_elim
    (λ (is : is_forwarded settings past (arrival_of e) ≡ true).
    let here = each.0 is in
    rw is (inr (further e.time (forwarded settings past) here rest)))
    (λ (is : is_forwarded settings past (arrival_of e) ≡ false). rw is rest)
    (cases_Bool (is_forwarded settings past (arrival_of e)))
  where
    further : (time : ℕ) (frames : List Forwarded) → time + settings.skew_max < now → (frames ≡ []) ⊎ (greatest_time frames + settings.skew_max < now) → max time (greatest_time frames) + settings.skew_max < now
    further time frames here (inl none) = rw none (omega (arith, here))
    further time frames here (inr over) = omega (arith, here, over)

one_near : (settings : Settings) (now : ℕ) (past : List Event) → SomeForwarded settings (λ e. now ≤ e.time + settings.skew_max) past → now ≤ greatest_time (forwarded settings past) + settings.skew_max
one_near settings now [] some = absurd some
one_near settings now (e ∷ past) (inl here) = let near = here.1 in rw here.0 (omega (arith, near))
one_near settings now (e ∷ past) (inr later) =
    let rest = one_near settings now past later in
    ⊎_elim
    (λ (is : is_forwarded settings past (arrival_of e) ≡ true). rw is (omega (arith, rest)))
    (λ (is : is_forwarded settings past (arrival_of e) ≡ false). rw is rest)
    (cases_Bool (is_forwarded settings past (arrival_of e)))

-- ---- so SkewMax is over, or runs

pub first_when_over : (skew_max : ℕ) (frames : List Forwarded) (number now : ℕ) → (frames ≡ []) ⊎ (greatest_time frames + skew_max < now) → is_first_copy skew_max frames number now ≡ true
first_when_over skew_max [] number now over = refl
first_when_over skew_max (frame ∷ earlier) number now (inl none) = cc
first_when_over skew_max (frame ∷ earlier) number now (inr over) = or_left _ _ (lt-ltb skew_max (elapsed now (greatest_time (frame ∷ earlier))) (omega (arith, over)))

pub forwarded_when_over : (settings : Settings) (past : List Event) (a : Arrival) → EachForwarded settings (λ e. e.time + settings.skew_max < a.time) past → passes settings past a ≡ true
    → is_forwarded settings past a ≡ true
forwarded_when_over settings past a each pass =
    rw (pass, first_when_over settings.skew_max (forwarded settings past) (sequence_number_of a.frame) a.time (all_over settings a.time past each)) (go settings.redundancy)
  where
    go : (on : Bool) → (true && not (on && not true)) ≡ true
    go true = refl
    go false = refl

pub redundant_while_it_runs : (settings : Settings) (past : List Event) (a : Arrival) (latest : Forwarded) (earlier : List Forwarded) → settings.redundancy ≡ true
    → forwarded settings past ≡ latest ∷ earlier → is_ahead latest.sequence_number (sequence_number_of a.frame) ≡ false
    → SomeForwarded settings (λ e. a.time ≤ e.time + settings.skew_max) past → is_forwarded settings past a ≡ false
redundant_while_it_runs settings past a latest earlier on is behind some =
    let near : a.time ≤ greatest_time (latest ∷ earlier) + settings.skew_max = rw is at (one_near settings a.time past some) in
    let not_first : is_first_copy settings.skew_max (latest ∷ earlier) (sequence_number_of a.frame) a.time ≡ false =
    or_from _ _ (le-ltb settings.skew_max (elapsed a.time (greatest_time (latest ∷ earlier))) (omega (arith, near))) behind in
    go (passes settings past a) settings.redundancy (is_first_copy settings.skew_max (forwarded settings past) (sequence_number_of a.frame) a.time) on
    (ap (λ (frames : List Forwarded). is_first_copy settings.skew_max frames (sequence_number_of a.frame) a.time) is ∙ not_first)
  where
    go : (pass on first : Bool) → on ≡ true → first ≡ false → (pass && not (on && not first)) ≡ false
    go pass true false e f = and_right pass false refl
    go pass true true e f = cc
    go pass false first e f = cc
