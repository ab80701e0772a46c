-- A sender that counts its identifications has no two datagrams in fragments with one within the limit.
use Rattle.std.proofs.Common.{◌≡◌, ◌∙◌, sym, ap, ℕ, zero, suc, ◌+◌, ◌-◌, ◌<◌, ◌≤◌, true, false, List, [], ◌∷◌, inl, inr, refl, ⊎_elim, arith}
use Rattle.std.specs.Prelude.{◌⊎◌, ◌==◌}
use Rattle.std.proofs.lemmas.Bool.{both_ways, cases_Bool, cases_lt, eqb-true}
use Rattle.es_base.specs.declared.event.Event.{Event}
use Rattle.link_rules.specs.Fragments.{key_of}
use Rattle.link_rules.proofs.Keys.{same_key}
use Rattle.frame_delivery.specs.Sending.{Copy, EachCopy, Numbering, events_of_copies}
use Rattle.frame_delivery.specs.Network.{IsOnItsWay, KeepsGap, KeepsPause, KeepsTimes, Timing, time_of_all}
use Rattle.frame_delivery.proofs.Times.{sent_after, sent_around, sent_in_order}
use Rattle.datagram_delivery.specs.Parts.{AreOfOne, AreOfOneWith, HaveParts}
use Rattle.datagram_delivery.specs.Counting.{CarryParts, Counting, CountsOn, CountsUp, CarriesPart, IsOverBefore, IsSoonAfter, KeepsCount, TurnsOverLate, next_ident}

-- ---- a count that turns over after 65,536 frames at the soonest

-- what the count came to after up to d frames
record Counted (counting : Counting) (index later d : ℕ) : Type 0 where
  steps : ℕ
  most : steps ≤ d
  ident : (counting.ident later ≡ counting.ident index + steps) ⊎ (counting.ident later + 65536 ≡ counting.ident index + steps)
  same : steps ≡ 0 → counting.datagram later ≡ counting.datagram index

next_one : (counting : Counting) (index later d : ℕ) → CountsUp counting → d < 65535 → Counted counting index later d → counting.ident (suc later) ≡ next_ident (counting.ident later) → Counted counting index (suc later) (suc d)
next_one counting index later d up few before next =
    let most = before.most in
    let first = up.idents index in
    ⊎_elim
    (λ (last : (counting.ident later == 65535) ≡ true).
    let is = eqb-true (counting.ident later) 65535 last in
    let none : counting.ident (suc later) ≡ 0 = next ∙ rw last refl in
    record {
      steps = suc before.steps;
      most = omega (arith, most);
      ident = ⊎_elim (λ on. inr (omega (arith, is, none, on))) (λ over. absurd (omega (arith, is, most, first, few, over))) before.ident;
      same = λ none. cc;
    })
    (λ (more : (counting.ident later == 65535) ≡ false).
    let one : counting.ident (suc later) ≡ counting.ident later + 1 = next ∙ rw more refl in
    record {
      steps = suc before.steps;
      most = omega (arith, most);
      ident = ⊎_elim (λ on. inl (omega (arith, one, on))) (λ over. inr (omega (arith, one, over))) before.ident;
      same = λ none. cc;
    })
    (cases_Bool (counting.ident later == 65535))

counted : (counting : Counting) (index d : ℕ) → CountsUp counting → d < 65536 → CountsOn counting index (index + d) → Counted counting index (index + d) d
counted counting index zero up few on = let e : index + 0 ≡ index = omega arith in rw e (record { steps = 0; most = omega arith; ident = inl (omega arith); same = λ none. refl })
counted counting index (suc d) up few on =
    let e : index + suc d ≡ suc (index + d) = omega arith in
    let before = counted counting index d up (omega (arith, few)) (λ between after within. on between after (omega (arith, within))) in
    let most = before.most in
    rw e
    (⊎_elim
    (λ same. record {
      steps = before.steps;
      most = omega (arith, most);
      ident = ⊎_elim (λ is. inl (same.1 ∙ is)) (λ over. let ident = same.1 in inr (omega (arith, ident, over))) before.ident;
      same = λ none. same.0 ∙ before.same none;
    })
    (λ next. next_one counting index (index + d) d up (omega (arith, few)) before next)
    (up.up (index + d) (on (suc (index + d)) (omega arith) (omega arith))))

one_datagram : (counting : Counting) (index d later : ℕ) → CountsUp counting → d < 65536 → index + d ≡ later → CountsOn counting index later → counting.ident index ≡ counting.ident later
    → counting.datagram index ≡ counting.datagram later
one_datagram counting index d later up few e on same =
    let after = counted counting index d up few (λ between less within. on between less (omega (arith, e, within))) in
    let most = after.most in
    let there : counting.ident (index + d) ≡ counting.ident later = ap counting.ident e in
    let none : after.steps ≡ 0 = ⊎_elim (λ on. omega (arith, on, same, there)) (λ over. absurd (omega (arith, over, same, there, most, few))) after.ident in
    sym (after.same none) ∙ ap counting.datagram e

pub turns_over_late : (limit : ℕ) (numbering : Numbering) (timing : Timing) (counting : Counting) → KeepsGap timing → KeepsPause numbering timing → CountsUp counting → IsOverBefore limit timing
    → TurnsOverLate limit timing counting
turns_over_late limit numbering timing counting gaps pauses up over = λ index later order on soon same.
    ⊎_elim
    (λ (few : later < index + 65536). one_datagram counting index (later - index) later up (omega (arith, few)) (omega (arith, order)) on same)
    (λ (many : index + 65536 ≤ later).
    let sent = sent_after numbering timing gaps pauses index 65536 in
    let after = sent_in_order numbering timing gaps pauses (index + 65536) later many in
    absurd (omega (arith, sent, after, soon, over)))
    (cases_lt later (index + 65536))

-- ---- two frames of which copies come within the limit are of one count

module _ (limit : ℕ) (numbering : Numbering) (timing : Timing) (counting : Counting) (gaps : KeepsGap timing) (pauses : KeepsPause numbering timing) (keeps : KeepsCount limit numbering timing counting) where
  counts_on : (index later : ℕ) → IsSoonAfter limit timing index later → CountsOn counting index later
  counts_on index later soon zero after within = absurd (omega arith)
  counts_on index later soon (suc between) after within =
      ⊎_elim
      (λ (anew : counting.anew (suc between) ≡ true).
      let (restarts, long) = keeps.pauses between anew in
      let paused = sent_around numbering timing gaps pauses index (suc between) later after within restarts in
      absurd (omega (arith, soon, long, paused)))
      (λ (on : counting.anew (suc between) ≡ false). on)
      (cases_Bool (counting.anew (suc between)))

  soon_is_one : (index later : ℕ) → index ≤ later → IsSoonAfter limit timing index later → counting.ident index ≡ counting.ident later → counting.datagram index ≡ counting.datagram later
  soon_is_one index later order soon same = keeps.turns index later order (counts_on index later soon) soon same

  of_one : (datagram : Event → List ℕ) (copy other : Copy) → CarriesPart counting datagram copy → CarriesPart counting datagram other → IsOnItsWay timing copy → IsOnItsWay timing other
      → other.event.time ≤ copy.event.time + timing.wait → AreOfOne limit datagram copy.event other.event
  of_one datagram copy other here there way other_way taken = λ one two read read_too fragment part same within.
      let key : key_of two ≡ key_of one = same_key (key_of two) (key_of one) same in
      let ident : counting.ident other.index ≡ counting.ident copy.index = sym (there.ident two read_too part) ∙ ap (λ k. k.ident) key ∙ here.ident one read fragment in
      let (soonest, latest) = way in
      let (other_soonest, other_latest) = other_way in
      let number : counting.datagram other.index ≡ counting.datagram copy.index =
      ⊎_elim
      (λ (less : copy.index < other.index). sym (soon_is_one copy.index other.index (omega (arith, less)) (omega (arith, latest, other_soonest, taken)) (sym ident)))
      (λ (more : other.index ≤ copy.index). soon_is_one other.index copy.index more (omega (arith, soonest, other_latest, within)) ident)
      (cases_lt copy.index other.index) in
      there.of ∙ ap counting.octets number ∙ sym here.of

  of_one_with : (datagram : Event → List ℕ) (copy : Copy) (before : List Copy) → CarriesPart counting datagram copy → CarryParts counting datagram before → IsOnItsWay timing copy
      → EachCopy (λ before copy. IsOnItsWay timing copy) before → time_of_all before ≤ copy.event.time + timing.wait → AreOfOneWith limit datagram copy.event (events_of_copies before)
  of_one_with datagram copy [] here others way ways taken = tt
  of_one_with datagram copy (other ∷ before) here others way ways taken = (
    of_one datagram copy other here others.0 way ways.0 (omega (arith, taken)),
    of_one_with datagram copy before here others.1 way ways.1 (omega (arith, taken)),
  )

  parts_counted : (datagram : Event → List ℕ) (copies : List Copy) → CarryParts counting datagram copies → EachCopy (λ before copy. IsOnItsWay timing copy) copies
      → EachCopy (λ before copy. time_of_all before ≤ copy.event.time + timing.wait) copies → HaveParts limit datagram (events_of_copies copies)
  parts_counted datagram [] are ways order = tt
  parts_counted datagram (copy ∷ before) are ways order = (are.0.part, of_one_with datagram copy before are.0 are.1 ways.0 ways.1 order.0, parts_counted datagram before are.1 ways.1 order.1)

pub counted_have_parts : (limit : ℕ) (numbering : Numbering) (timing : Timing) (counting : Counting) (datagram : Event → List ℕ) (copies : List Copy) → KeepsTimes numbering timing copies
    → CarryParts counting datagram copies → KeepsCount limit numbering timing counting → HaveParts limit datagram (events_of_copies copies)
counted_have_parts limit numbering timing counting datagram copies times are keeps =
    parts_counted limit numbering timing counting times.gaps times.pauses keeps datagram copies are times.ways times.order

-- a count that goes on over restarts needs no pause
pub count_goes_on : (limit : ℕ) (numbering : Numbering) (timing : Timing) (counting : Counting) → ((index : ℕ) → counting.anew index ≡ false) → TurnsOverLate limit timing counting
    → KeepsCount limit numbering timing counting
count_goes_on limit numbering timing counting on turns = record { turns = turns; pauses = λ index anew. absurd (both_ways (counting.anew (suc index)) (on (suc index)) anew) }
