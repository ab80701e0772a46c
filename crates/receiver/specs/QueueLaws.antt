-- What waited in a queue, counted over messages that were put one after another.
use Rattle.std.proofs.Common.{◌≡◌, ◌∙◌, ap, sym, refl, ℕ, suc, ◌+◌, ◌-◌, ◌≤◌, max, List, [], ◌∷◌, ◌++◌, length, arith}
use Rattle.std.proofs.lemmas.List.{length-append}
use Rattle.receiver.specs.Queue.{CountedQueue, CountsWaiting, RiseFrom, greatest_after}

rise_lower : (lower low high : ℕ) (numbers : List ℕ) → lower ≤ low → RiseFrom low high numbers → RiseFrom lower high numbers
rise_lower lower low high [] less rise = omega (arith, less, rise)
rise_lower lower low high (number ∷ numbers) less rise = (omega (arith, less, rise.0), rise.1)

rise_join : (low mid high : ℕ) (first then : List ℕ) → RiseFrom low mid first → RiseFrom mid high then → RiseFrom low high (first ++ then)
rise_join low mid high [] then one two = rise_lower low mid high then one two
rise_join low mid high (number ∷ numbers) then one two = (one.0, rise_join number mid high numbers then one.1 two)

greatest_join : (greatest put : ℕ) (first then : List ℕ) → greatest_after greatest put (first ++ then) ≡ greatest_after (greatest_after greatest put first) (put + length first) then
greatest_join greatest put [] then = let same : put ≡ put + 0 = omega arith in ap (λ (n : ℕ). greatest_after greatest n then) same
greatest_join greatest put (taken ∷ later) then =
    let same : put + 1 + length later ≡ put + suc (length later) = omega arith in
    greatest_join (max greatest (put + 1 - taken)) (put + 1) later then
    ∙ ap (λ (n : ℕ). greatest_after (greatest_after (max greatest (put + 1 - taken)) (put + 1) later) n then) same

pub counts_none : (queue : CountedQueue) → CountsWaiting queue queue 0
counts_none queue = record { taken = []; each = refl; rising = omega arith; greatest = refl }

pub counts_join : {A : Type 0} (x y z : CountedQueue) (first then : List A) → length y.known.put ≡ length x.known.put + length first → CountsWaiting x y (length first) → CountsWaiting y z (length then) → CountsWaiting x z (length (first ++ then))
counts_join x y z first then put xy yz =
    let both = length-append xy.taken yz.taken in
    let all = length-append first then in
    let each_first = xy.each in
    let each_then = yz.each in
    let now : length y.known.put ≡ length x.known.put + length xy.taken = put ∙ ap (λ (n : ℕ). length x.known.put + n) (sym xy.each) in
    record {
      taken = xy.taken ++ yz.taken;
      each = omega (arith, both, all, each_first, each_then);
      rising = rise_join _ _ _ xy.taken yz.taken xy.rising yz.rising;
      greatest = yz.greatest ∙ (λ i. greatest_after (xy.greatest i) (now i) yz.taken) ∙ sym (greatest_join x.greatest (length x.known.put) xy.taken yz.taken);
    }
