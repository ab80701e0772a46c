-- Which copies pass integrity checking: each on networks that keep the order of the frames.
use Rattle.std.proofs.Common.{◌≡◌, ◌∙◌, sym, ap, ℕ, zero, suc, ◌+◌, ◌-◌, ◌<◌, ◌≤◌, true, false, List, [], ◌∷◌, Option, None, Some, refl, ⊎_elim, arith}
use Rattle.std.specs.Prelude.{max}
use Rattle.std.proofs.lemmas.Bool.{cases_Bool, ltb-true, eq-eqb, or_left, or_right}
use Rattle.es_base.specs.declared.place.Net.{Net}
use Rattle.es_base.specs.declared.place.Net.TheVariants as nets
use Rattle.es_base.specs.declared.event.Event.{Event}
use Rattle.es_base.specs.Frame.{sequence_number_of}
use Rattle.es_base.specs.Past.{arrival_of}
use Rattle.es_base.specs.Networks.{is_same_net}
use Rattle.link_rules.specs.Integrity.{is_among_next, latest, may_follow, next_number, passes, sequence_numbers_on}
use Rattle.es_base.specs.Settings.{Settings}
use Rattle.frame_delivery.specs.Sending.{Copy, HaveNumbers, Numbering, RunsOn, events_of_copies, events_since, number_of_frame}
use Rattle.frame_delivery.specs.Once.{greatest_index, is_new}
use Rattle.frame_delivery.specs.Network.{IsLater, KeepsOrder, LosesFew, MayFollow, copies_on, indices_on}
use Rattle.frame_delivery.proofs.Cases.{by_if}
use Rattle.frame_delivery.proofs.Numbers.{number_after, number_later}

-- ---- the number of one of the next frames is among the next numbers

-- the numbers that follow a number follow as those after it
next_first : (n d : ℕ) → number_after (next_number n) d ≡ next_number (number_after n d)
next_first n zero = refl
next_first n (suc d) = ap next_number (next_first n d)

among_next : (window n d : ℕ) → d < window → is_among_next window n (next_number (number_after n d)) ≡ true
among_next zero n d within = absurd (omega arith)
among_next (suc window) n zero within = or_left _ _ (eq-eqb (next_number n) (next_number n) refl)
among_next (suc window) n (suc d) within =
    or_right _ _ (ap (λ (r : ℕ). is_among_next window (next_number n) (next_number r)) (sym (next_first n d)) ∙ among_next window (next_number n) d (omega arith))

follows : (numbering : Numbering) (window before index : ℕ) → before < index → index ≤ before + window → RunsOn numbering before index
    → is_among_next window (number_of_frame numbering before) (number_of_frame numbering index) ≡ true
follows numbering window before index later near runs =
    let d : ℕ = index - before - 1 in
    let e : index ≡ before + suc d = omega arith in
    ap (λ (r : ℕ). is_among_next window (number_of_frame numbering before) (number_of_frame numbering r)) e
    ∙ ap (is_among_next window (number_of_frame numbering before)) (number_later numbering before (suc d) (λ one after within. runs one after (omega arith)))
    ∙ among_next window (number_of_frame numbering before) d (omega arith)

-- a restart has the number 0
restart_is_zero : (numbering : Numbering) (before index : ℕ) → before < index → numbering.restarts index ≡ true → number_of_frame numbering index ≡ 0
restart_is_zero numbering before zero later again = absurd (omega arith)
restart_is_zero numbering before (suc index) later again = rw again refl

-- ---- the copies of one network

pub itself : (net : Net) → is_same_net net net ≡ true
itself nets.A = refl
itself nets.B = refl

pub same_net : (one two : Net) → is_same_net one two ≡ true → one ≡ two
same_net nets.A nets.A is = refl
same_net nets.A nets.B is = cc
same_net nets.B nets.A is = cc
same_net nets.B nets.B is = refl

pub by_net : (net : Net) (copy : Copy) (before : List Copy) (Hold : List Copy → Type 0) → (is_same_net copy.event.net net ≡ true → Hold (copy ∷ copies_on net before)) → (is_same_net copy.event.net net ≡ false → Hold (copies_on net before))
    → Hold (copies_on net (copy ∷ before))
by_net net copy before Hold = by_if Hold (is_same_net copy.event.net net) (copy ∷ copies_on net before) (copies_on net before)

numbers_on : (numbering : Numbering) (net : Net) (copies : List Copy) → HaveNumbers numbering copies → HaveNumbers numbering (copies_on net copies)
numbers_on numbering net [] numbers = tt
numbers_on numbering net (copy ∷ before) numbers =
    let rest = numbers_on numbering net before numbers.1 in by_net net copy before (HaveNumbers numbering) (λ is. (numbers.0, rest)) (λ is. rest)

-- ---- the latest number on a network is that of the latest frame

abbrev number_or : Numbering → Option ℕ → Option ℕ → Option ℕ
number_or numbering None old = old
number_or numbering (Some index) old = Some (number_of_frame numbering index)

latest_on : (numbering : Numbering) (net : Net) (old : List Event) (copies : List Copy) → HaveNumbers numbering (copies_on net copies)
    → latest (sequence_numbers_on (events_since copies old) net) ≡ number_or numbering (latest (indices_on copies net)) (latest (sequence_numbers_on old net))
latest_on numbering net old [] numbers = refl
latest_on numbering net old (copy ∷ before) numbers =
    ⊎_elim
    (λ (is : is_same_net copy.event.net net ≡ true).
    let number : HaveNumbers numbering (copy ∷ copies_on net before) = rw is at numbers in
    rw is (ap Some number.0))
    (λ (is : is_same_net copy.event.net net ≡ false). rw is (latest_on numbering net old before (rw is at numbers)))
    (cases_Bool (is_same_net copy.event.net net))

may_follow_too : (numbering : Numbering) (window before index : ℕ) → before < index → MayFollow numbering window (Some before) index
    → may_follow window (Some (number_of_frame numbering before)) (number_of_frame numbering index) ≡ true
may_follow_too numbering window before index later may =
    ⊎_elim
    (λ (near : (index ≤ before + window) × RunsOn numbering before index). or_right _ _ (follows numbering window before index later near.0 near.1))
    (λ (again : numbering.restarts index ≡ true). or_left _ _ (eq-eqb (number_of_frame numbering index) 0 (restart_is_zero numbering before index later again)))
    may

-- ---- so a copy passes that is one of the next frames on its network, or the first there

pub passes_here : (settings : Settings) (numbering : Numbering) (old : List Event) (copy : Copy) (before : List Copy) → HaveNumbers numbering (copies_on copy.event.net (copy ∷ before))
    → IsLater (latest (indices_on before copy.event.net)) copy.index → MayFollow numbering settings.window (latest (indices_on before copy.event.net)) copy.index
    → (latest (indices_on before copy.event.net) ≡ None → latest (sequence_numbers_on old copy.event.net) ≡ None) → passes settings (events_since before old) (arrival_of copy.event) ≡ true
passes_here settings numbering old copy before numbers later may alone =
    let number : HaveNumbers numbering (copy ∷ copies_on copy.event.net before) = rw (itself copy.event.net) at numbers in
    ap (λ (one : Option ℕ). may_follow settings.window one (sequence_number_of copy.event.frame)) (latest_on numbering copy.event.net old before number.1)
    ∙ go (latest (indices_on before copy.event.net)) number.0 later may alone
  where
    go : (last : Option ℕ) → sequence_number_of copy.event.frame ≡ number_of_frame numbering copy.index → IsLater last copy.index → MayFollow numbering settings.window last copy.index
        → (last ≡ None → latest (sequence_numbers_on old copy.event.net) ≡ None)
        → may_follow settings.window (number_or numbering last (latest (sequence_numbers_on old copy.event.net))) (sequence_number_of copy.event.frame) ≡ true
    go None number later may alone = ap (λ (one : Option ℕ). may_follow settings.window one (sequence_number_of copy.event.frame)) (alone refl)
    go (Some last) number later may alone = ap (λ (n : ℕ). may_follow settings.window (Some (number_of_frame numbering last)) n) number ∙ may_follow_too numbering settings.window last copy.index later may

pub copy_passes : (settings : Settings) (numbering : Numbering) (copy : Copy) (before : List Copy) → HaveNumbers numbering (copy ∷ before) → KeepsOrder (copy ∷ before)
    → LosesFew numbering settings.window (copy ∷ before) → passes settings (events_of_copies before) (arrival_of copy.event) ≡ true
copy_passes settings numbering copy before numbers keeps losses =
    passes_here settings numbering [] copy before (numbers_on numbering copy.event.net (copy ∷ before) numbers) keeps.0 losses.0 (λ none. refl)

pub passes_again : (settings : Settings) (numbering : Numbering) (old : List Event) (copy : Copy) (before : List Copy) (last : ℕ) → HaveNumbers numbering (copies_on copy.event.net (copy ∷ before))
    → latest (indices_on before copy.event.net) ≡ Some last → last < copy.index → MayFollow numbering settings.window (Some last) copy.index
    → passes settings (events_since before old) (arrival_of copy.event) ≡ true
passes_again settings numbering old copy before last numbers is later may =
    passes_here settings numbering old copy before numbers (rw is later) (rw is may) (λ none. let both : Some last ≡ None = sym is ∙ none in cc)

-- ---- where a network may bring a frame twice, each new copy passes

abbrev pub IsAtMost : Option ℕ → ℕ → Type 0
IsAtMost None n = Unit {0}
IsAtMost (Some i) n = i ≤ n

pub latest_at_most : (copies : List Copy) (net : Net) → IsAtMost (latest (indices_on copies net)) (greatest_index copies)
latest_at_most [] net = tt
latest_at_most (copy ∷ before) net =
    ⊎_elim
    (λ (is : is_same_net copy.event.net net ≡ true). rw is (omega arith))
    (λ (is : is_same_net copy.event.net net ≡ false). rw is (weaker (latest (indices_on before net)) (greatest_index before) (max copy.index (greatest_index before)) (omega arith) (latest_at_most before net)))
    (cases_Bool (is_same_net copy.event.net net))
  where
    weaker : (last : Option ℕ) (n m : ℕ) → n ≤ m → IsAtMost last n → IsAtMost last m
    weaker None n m le most = tt
    weaker (Some i) n m le most = omega arith

new_is_later : (index : ℕ) (before : List Copy) (net : Net) → is_new index before ≡ true → IsLater (latest (indices_on before net)) index
new_is_later index [] net new = tt
new_is_later index (other ∷ before) net new =
    go (latest (indices_on (other ∷ before) net)) (latest_at_most (other ∷ before) net)
  where
    less : greatest_index (other ∷ before) < index
    less = ltb-true (greatest_index (other ∷ before)) index new

    go : (last : Option ℕ) → IsAtMost last (greatest_index (other ∷ before)) → IsLater last index
    go None most = tt
    go (Some i) most = let l = less in omega (arith, l, most)

pub new_passes : (settings : Settings) (numbering : Numbering) (copy : Copy) (before : List Copy) → HaveNumbers numbering (copy ∷ before) → LosesFew numbering settings.window (copy ∷ before)
    → is_new copy.index before ≡ true → passes settings (events_of_copies before) (arrival_of copy.event) ≡ true
new_passes settings numbering copy before numbers losses new =
    passes_here settings numbering [] copy before (numbers_on numbering copy.event.net (copy ∷ before) numbers) (new_is_later copy.index before copy.event.net new) losses.0 (λ none. refl)
