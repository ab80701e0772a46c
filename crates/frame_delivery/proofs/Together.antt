-- Where each network keeps the order, by itself and before the other, the first copies come in order.
use Rattle.std.proofs.Common.{◌≡◌, ◌∙◌, ap, subst, ℕ, ◌+◌, ◌<◌, ◌≤◌, inl, inr, true, false, List, [], ◌∷◌, Option, None, Some, refl, ⊎_elim, arith}
use Rattle.std.specs.Prelude.{◌==◌}
use Rattle.std.proofs.lemmas.Bool.{cases_Bool, cases_lt, eq-eqb, eqb-true, false≢true, ltb-false, or_cases, or_left, or_right}
use Rattle.es_base.specs.declared.place.Net.{Net}
use Rattle.es_base.specs.declared.place.Net.TheVariants as nets
use Rattle.es_base.specs.declared.event.Event.{Event}
use Rattle.es_base.specs.Networks.{is_same_net}
use Rattle.link_rules.specs.Integrity.{latest}
use Rattle.es_base.specs.Settings.{Settings}
use Rattle.frame_delivery.specs.Sending.{Copy, Numbering}
use Rattle.frame_delivery.specs.Once.{FirstsInOrder, IsNotOvertaken, greatest_index, has_come}
use Rattle.frame_delivery.specs.Network.{Delays, IsLater, KeepOrderTogether, KeepsBefore, KeepsDelays, KeepsGap, KeepsOrder, KeepsTimes, LosesNoneOf, Timing, copies_on, indices_on, time_of_all}
use Rattle.frame_delivery.specs.Since.{passing_since}
use Rattle.frame_delivery.proofs.Firsts.{come_among, latest_has_come}
use Rattle.frame_delivery.proofs.Passing.{by_net, itself, same_net}
use Rattle.frame_delivery.proofs.Since.{by_counts, each_since, times_since}
use Rattle.frame_delivery.proofs.Times.{sent_apart}

-- ---- the copies of one network

on_before : (net : Net) (index : ℕ) (copy : Copy) (before : List Copy) → has_come index (copies_on net before) ≡ true → has_come index (copies_on net (copy ∷ before)) ≡ true
on_before net index copy before come =
    by_net net copy before (λ some. has_come index some ≡ true) (λ is. or_right _ _ come) (λ is. come)

come_on : (net : Net) (index : ℕ) (copies : List Copy) → has_come index (copies_on net copies) ≡ true → has_come index copies ≡ true
come_on net index [] come = come
come_on net index (copy ∷ before) come = come_among (is_same_net copy.event.net net) index copy (copies_on net before) before (come_on net index before) come

-- a copy is of a later frame than all before it on its network
later_on : (net : Net) (copy : Copy) (before : List Copy) → KeepsOrder (copy ∷ before) → is_same_net copy.event.net net ≡ true → IsLater (latest (indices_on before net)) copy.index
later_on net copy before order is = subst (λ (n : Net). IsLater (latest (indices_on before n)) copy.index) (same_net copy.event.net net is) order.0

all_earlier : (net : Net) (copies : List Copy) (index one : ℕ) → KeepsOrder copies → IsLater (latest (indices_on copies net)) index → has_come one (copies_on net copies) ≡ true → one < index
all_earlier net [] index one order later come = cc
all_earlier net (copy ∷ before) index one order later come =
    ⊎_elim
    (λ (is : is_same_net copy.event.net net ≡ true).
    let less : copy.index < index = rw is at later in
    let here : has_come one (copy ∷ copies_on net before) ≡ true = rw is at come in
    ⊎_elim
    (λ (same : (copy.index == one) ≡ true). let e = eqb-true copy.index one same in omega (arith, less, e))
    (λ (there : has_come one (copies_on net before) ≡ true). let rest = all_earlier net before copy.index one order.1 (later_on net copy before order is) there in omega (arith, less, rest))
    (or_cases (copy.index == one) (has_come one (copies_on net before)) here))
    (λ (is : is_same_net copy.event.net net ≡ false). all_earlier net before index one order.1 (rw is at later) (rw is at come))
    (cases_Bool (is_same_net copy.event.net net))

-- ---- what is asked of all is asked of those before the last

none_before : (net other : Net) (copy : Copy) (before : List Copy) → KeepsOrder (copy ∷ before) → LosesNoneOf net other (copy ∷ before) → LosesNoneOf net other before
none_before net other copy before order none = λ index later less come come_later.
    let all = none index later less (on_before other index copy before come) (on_before net later copy before come_later) in
    ⊎_elim
    (λ (is : is_same_net copy.event.net net ≡ true).
    let here : has_come index (copy ∷ copies_on net before) ≡ true = rw is at all in
    ⊎_elim
    (λ (same : (copy.index == index) ≡ true).
    let e = eqb-true copy.index index same in
    let earlier = all_earlier net before copy.index later order.1 (later_on net copy before order is) come_later in
    absurd (omega (arith, less, earlier, e)))
    (λ (there : has_come index (copies_on net before) ≡ true). there)
    (or_cases (copy.index == index) (has_come index (copies_on net before)) here))
    (λ (is : is_same_net copy.event.net net ≡ false). rw is at all)
    (cases_Bool (is_same_net copy.event.net net))

keeps_before : (timing : Timing) (delays : Delays) (net other : Net) (copy : Copy) (before : List Copy) → KeepsOrder (copy ∷ before) → KeepsBefore timing delays net other (copy ∷ before)
    → KeepsBefore timing delays net other before
keeps_before timing delays net other copy before order keeps =
    ⊎_elim (λ less. inl less) (λ none. inr (none_before other net copy before order none)) keeps

together_before : (timing : Timing) (delays : Delays) (copy : Copy) (before : List Copy) → KeepOrderTogether timing delays (copy ∷ before) → KeepOrderTogether timing delays before
together_before timing delays copy before keep =
    let order = keep.order in
    let ways = keep.ways in
    let taken = keep.taken in
    record {
      gaps = keep.gaps;
      order = order.1;
      ways = ways.1;
      taken = taken.1;
      a = keeps_before timing delays nets.A nets.B copy before order keep.a;
      b = keeps_before timing delays nets.B nets.A copy before order keep.b;
    }

-- ---- a copy of a frame, and the network that brought it

record Found (timing : Timing) (delays : Delays) (index : ℕ) (copies : List Copy) : Type 0 where
  net : Net
  on : has_come index (copies_on net copies) ≡ true
  time : timing.sent index + delays.least net ≤ time_of_all copies

find : (timing : Timing) (delays : Delays) (index : ℕ) (copies : List Copy) → KeepsDelays timing delays copies → has_come index copies ≡ true → Found timing delays index copies
find timing delays index [] ways come = cc
find timing delays index (copy ∷ before) ways come =
    ⊎_elim
    (λ (same : (copy.index == index) ≡ true).
    let sent : timing.sent copy.index ≡ timing.sent index = ap timing.sent (eqb-true copy.index index same) in
    let (soonest, latest) = ways.0 in
    record { net = copy.event.net; on = rw (itself copy.event.net) (or_left _ _ same); time = omega (arith, soonest, sent) })
    (λ (there : has_come index before ≡ true).
    let rest = find timing delays index before ways.1 there in
    let time = rest.time in
    record { net = rest.net; on = on_before rest.net index copy before rest.on; time = omega (arith, time) })
    (or_cases (copy.index == index) (has_come index before) come)

-- ---- so a copy that comes after one of a later frame isn't the first of its own

-- where another network brought the later frame
brought_before : (timing : Timing) (delays : Delays) (copy : Copy) (before : List Copy) (net : Net) (later : ℕ) → KeepsGap timing → KeepsDelays timing delays (copy ∷ before)
    → time_of_all before ≤ copy.event.time + timing.wait → KeepsBefore timing delays copy.event.net net (copy ∷ before) → is_same_net copy.event.net net ≡ false → copy.index < later
    → has_come later (copies_on net before) ≡ true → timing.sent later + delays.least net ≤ time_of_all before → has_come copy.index before ≡ true
brought_before timing delays copy before net later gaps ways taken keeps differ less on time =
    ⊎_elim
    (λ near.
    let sent = sent_apart (record { first = 0; restarts = λ index. false }) timing gaps (λ index is. absurd (false≢true is)) copy.index later less in
    let (soonest, latest) = ways.0 in
    absurd (omega (arith, near, sent, latest, taken, time)))
    (λ (none : LosesNoneOf net copy.event.net (copy ∷ before)).
    let all = none copy.index later less (rw (itself copy.event.net) (or_left _ _ (eq-eqb copy.index copy.index refl))) (on_before net later copy before on) in
    come_on net copy.index before (rw differ at all))
    keeps

of_other : (timing : Timing) (delays : Delays) (copies : List Copy) (net other : Net) → is_same_net net other ≡ false → KeepOrderTogether timing delays copies → KeepsBefore timing delays net other copies
of_other timing delays copies nets.A nets.A differ keep = cc
of_other timing delays copies nets.A nets.B differ keep = keep.a
of_other timing delays copies nets.B nets.A differ keep = keep.b
of_other timing delays copies nets.B nets.B differ keep = cc

not_overtaken : (timing : Timing) (delays : Delays) (copy : Copy) (before : List Copy) → KeepOrderTogether timing delays (copy ∷ before) → IsNotOvertaken before copy
not_overtaken timing delays copy [] keep = λ old. cc
not_overtaken timing delays copy (other ∷ before) keep = λ old.
    let greatest : ℕ = greatest_index (other ∷ before) in
    let at_most : copy.index ≤ greatest = ltb-false greatest copy.index old in
    let order = keep.order in
    let ways = keep.ways in
    let taken = keep.taken in
    ⊎_elim
    (λ (less : copy.index < greatest).
    let found = find timing delays greatest (other ∷ before) ways.1 (latest_has_come other before) in
    ⊎_elim
    (λ (is : is_same_net copy.event.net found.net ≡ true).
    let earlier = all_earlier found.net (other ∷ before) copy.index greatest order.1 (later_on found.net copy (other ∷ before) order is) found.on in
    absurd (omega (arith, less, earlier)))
    (λ (differ : is_same_net copy.event.net found.net ≡ false).
    brought_before timing delays copy (other ∷ before) found.net greatest keep.gaps ways taken.0 (of_other timing delays (copy ∷ other ∷ before) copy.event.net found.net differ keep) differ less found.on found.time)
    (cases_Bool (is_same_net copy.event.net found.net)))
    (λ (more : greatest ≤ copy.index).
    let e : copy.index ≡ greatest = omega arith in
    ap (λ (index : ℕ). has_come index (other ∷ before)) e ∙ latest_has_come other before)
    (cases_lt copy.index greatest)

pub firsts_together : (timing : Timing) (delays : Delays) (copies : List Copy) → KeepOrderTogether timing delays copies → FirstsInOrder copies
firsts_together timing delays [] keep = tt
firsts_together timing delays (copy ∷ before) keep = (not_overtaken timing delays copy before keep, firsts_together timing delays before (together_before timing delays copy before keep))

-- ---- the copies that pass keep the order

later_yet : (last : Option ℕ) (one two : ℕ) → IsLater last one → one < two → IsLater last two
later_yet None one two later less = tt
later_yet (Some last) one two later less = omega (arith, later, less)

later_since : (settings : Settings) (old : List Event) (net : Net) (copies : List Copy) (index : ℕ) → KeepsOrder copies → IsLater (latest (indices_on copies net)) index
    → IsLater (latest (indices_on (passing_since settings old copies) net)) index
later_since settings old net [] index order later = tt
later_since settings old net (copy ∷ before) index order later =
    ⊎_elim
    (λ (on : is_same_net copy.event.net net ≡ true).
    let less : copy.index < index = rw on at later in
    by_counts settings old copy before (λ some. IsLater (latest (indices_on some net)) index) (λ is. rw on less)
    (λ is. later_since settings old net before index order.1 (later_yet (latest (indices_on before net)) copy.index index (later_on net copy before order on) less)))
    (λ (off : is_same_net copy.event.net net ≡ false).
    let rest = later_since settings old net before index order.1 (rw off at later) in
    by_counts settings old copy before (λ some. IsLater (latest (indices_on some net)) index) (λ is. rw off rest) (λ is. rest))
    (cases_Bool (is_same_net copy.event.net net))

order_kept_since : (settings : Settings) (old : List Event) (copies : List Copy) → KeepsOrder copies → KeepsOrder (passing_since settings old copies)
order_kept_since settings old [] order = tt
order_kept_since settings old (copy ∷ before) order =
    let rest = order_kept_since settings old before order.1 in by_counts settings old copy before KeepsOrder (λ is. (later_since settings old copy.event.net before copy.index order.1 order.0, rest)) (λ is. rest)

pub passing_together : (settings : Settings) (numbering : Numbering) (timing : Timing) (delays : Delays) (old : List Event) (copies : List Copy) → KeepsTimes numbering timing copies → KeepsOrder copies
    → KeepsDelays timing delays copies → KeepsBefore timing delays nets.A nets.B (passing_since settings old copies) → KeepsBefore timing delays nets.B nets.A (passing_since settings old copies)
    → FirstsInOrder (passing_since settings old copies)
passing_together settings numbering timing delays old copies times order ways a b =
    let some = times_since settings numbering timing old copies times in
    firsts_together timing delays (passing_since settings old copies)
    (record {
      gaps = some.gaps;
      order = order_kept_since settings old copies order;
      ways = each_since (λ copy. (timing.sent copy.index + delays.least copy.event.net ≤ copy.event.time) × (copy.event.time ≤ timing.sent copy.index + delays.greatest copy.event.net)) settings old copies ways;
      taken = some.order;
      a = a;
      b = b;
    })
