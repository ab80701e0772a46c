-- The sequence numbers of a sender's frames: which is ahead of which.
use Rattle.std.proofs.Common.{◌≡◌, ◌∙◌, ap, ℕ, zero, suc, ◌+◌, ◌-◌, ◌%◌, ◌<◌, ◌≤◌, true, false, refl, ⊎_elim, arith}
use Rattle.std.specs.Prelude.{◌&&◌, nat_le}
use Rattle.std.proofs.lemmas.Bool.{cases_Bool, cases_lt, eq-eqb, ne_eqb, le-leb, lt-leb, and_right}
use Rattle.link_rules.specs.Integrity.{next_number}
use Rattle.link_rules.specs.Copies.{is_ahead}
use Rattle.frame_delivery.specs.Sending.{Numbering, RunsOn, number_of_frame}

-- ---- the number j frames later

-- the number j frames after number p, with no restart
abbrev pub number_after : ℕ → ℕ → ℕ
number_after p zero = p
number_after p (suc j) = next_number (number_after p j)

-- where the sender runs on, the numbers go on
pub number_later : (numbering : Numbering) (k j : ℕ) → RunsOn numbering k (k + j) → number_of_frame numbering (k + j) ≡ number_after (number_of_frame numbering k) j
number_later numbering k zero runs = let e : k + 0 ≡ k = omega arith in rw e refl
number_later numbering k (suc j) runs =
    let e : k + suc j ≡ suc (k + j) = omega arith in
    let on : numbering.restarts (suc (k + j)) ≡ false = runs (suc (k + j)) (omega arith) (omega arith) in
    rw (e, on) (ap next_number (number_later numbering k j (λ index after within. runs index after (omega arith))))

next_small : (n : ℕ) → n < 255 → next_number n ≡ n + 1
next_small n small = rw (ne_eqb n 255 (λ e. omega arith)) refl

next_last : (n : ℕ) → n ≡ 255 → next_number n ≡ 1
next_last n last = rw (eq-eqb n 255 last) refl

next_bound : (n : ℕ) → n ≤ 255 → next_number n ≤ 255
next_bound n small =
    ⊎_elim
    (λ (less : n < 255). rw (next_small n less) (omega arith))
    (λ (last : 255 ≤ n). rw (next_last n (omega arith)) (omega arith))
    (cases_lt n 255)

-- a sequence number has 8 bits
pub number_bound : (numbering : Numbering) (k : ℕ) → numbering.first ≤ 255 → number_of_frame numbering k ≤ 255
number_bound numbering zero small = small
number_bound numbering (suc k) small =
    ⊎_elim
    (λ (again : numbering.restarts (suc k) ≡ true). rw again (omega arith))
    (λ (on : numbering.restarts (suc k) ≡ false). rw on (next_bound (number_of_frame numbering k) (number_bound numbering k small)))
    (cases_Bool (numbering.restarts (suc k)))

-- up to 255 it counts up
pub number_up : (p j : ℕ) → p + j ≤ 255 → number_after p j ≡ p + j
number_up p zero within = omega arith
number_up p (suc j) within =
    let before : number_after p j ≡ p + j = number_up p j (omega arith) in
    rw (next_small (number_after p j) (omega arith)) (omega arith)

-- and then it goes on from 1
pub number_round : (p j : ℕ) → p ≤ 255 → j ≤ 254 → 255 < p + j → number_after p j ≡ p + j - 255
number_round p zero small few beyond = absurd (omega arith)
number_round p (suc j) small few beyond =
    ⊎_elim
    (λ (later : 255 < p + j).
    let before : number_after p j ≡ p + j - 255 = number_round p j small (omega arith) later in
    rw (next_small (number_after p j) (omega arith)) (omega arith))
    (λ (here : p + j ≤ 255).
    let before : number_after p j ≡ p + j = number_up p j here in
    rw (next_last (number_after p j) (omega arith)) (omega arith))
    (cases_lt 255 (p + j))

-- ---- which is ahead

between : (d : ℕ) → 1 ≤ d → d ≤ 127 → (nat_le 1 d && nat_le d 127) ≡ true
between d least most = rw (le-leb 1 d least, le-leb d 127 most) refl

beyond : (d : ℕ) → 127 < d → (nat_le 1 d && nat_le d 127) ≡ false
beyond d much = and_right (nat_le 1 d) (nat_le d 127) (lt-leb d 127 much)

-- where neither is 0
ahead_apart : (p r : ℕ) → 0 < p → 0 < r → is_ahead p r ≡ (nat_le 1 ((r + 255 - p) % 255) && nat_le ((r + 255 - p) % 255) 127)
ahead_apart p r some other = rw (ne_eqb p 0 (λ e. omega arith), ne_eqb r 0 (λ e. omega arith)) refl

from_zero : (r : ℕ) → is_ahead 0 r ≡ (nat_le 1 r && nat_le r 127)
from_zero r = refl

to_zero : (p : ℕ) → 0 < p → is_ahead p 0 ≡ nat_le 128 p
to_zero p some = rw (ne_eqb p 0 (λ e. omega arith)) refl

-- the number of one of the next 127 frames is ahead
later_is_ahead : (p j : ℕ) → p ≤ 255 → 1 ≤ j → j ≤ 127 → is_ahead p (number_after p j) ≡ true
later_is_ahead zero j small least most = rw (number_up 0 j (omega arith)) (between (0 + j) (omega arith) (omega arith))
later_is_ahead (suc p) j small least most =
    ⊎_elim
    (λ (round : 255 < suc p + j).
    let is : number_after (suc p) j ≡ suc p + j - 255 = number_round (suc p) j small (omega arith) round in
    let gap : (number_after (suc p) j + 255 - suc p) % 255 ≡ j = omega arith in
    ahead_apart (suc p) (number_after (suc p) j) (omega arith) (omega arith) ∙ rw gap (between j least most))
    (λ (up : suc p + j ≤ 255).
    let is : number_after (suc p) j ≡ suc p + j = number_up (suc p) j up in
    let gap : (number_after (suc p) j + 255 - suc p) % 255 ≡ j = omega arith in
    ahead_apart (suc p) (number_after (suc p) j) (omega arith) (omega arith) ∙ rw gap (between j least most))
    (cases_lt 255 (suc p + j))

-- no number is ahead of itself
itself : (p : ℕ) → is_ahead p p ≡ false
itself zero = refl
itself (suc p) =
    let gap : (suc p + 255 - suc p) % 255 ≡ 0 = omega arith in
    ahead_apart (suc p) (suc p) (omega arith) (omega arith) ∙ rw gap refl

-- nor is it ahead of that of one of the next 127 frames
earlier_is_not : (p j : ℕ) → p ≤ 255 → 1 ≤ j → j ≤ 127 → is_ahead (number_after p j) p ≡ false
earlier_is_not zero j small least most =
    rw (number_up 0 j (omega arith)) (to_zero (0 + j) (omega arith) ∙ lt-leb 128 (0 + j) (omega arith))
earlier_is_not (suc p) j small least most =
    ⊎_elim
    (λ (round : 255 < suc p + j).
    let is : number_after (suc p) j ≡ suc p + j - 255 = number_round (suc p) j small (omega arith) round in
    let gap : (suc p + 255 - number_after (suc p) j) % 255 ≡ 255 - j = omega arith in
    ahead_apart (number_after (suc p) j) (suc p) (omega arith) (omega arith) ∙ rw gap (beyond (255 - j) (omega arith)))
    (λ (up : suc p + j ≤ 255).
    let is : number_after (suc p) j ≡ suc p + j = number_up (suc p) j up in
    let gap : (suc p + 255 - number_after (suc p) j) % 255 ≡ 255 - j = omega arith in
    ahead_apart (number_after (suc p) j) (suc p) (omega arith) (omega arith) ∙ rw gap (beyond (255 - j) (omega arith)))
    (cases_lt 255 (suc p + j))

-- ---- of the frames of a sender

-- a frame that is at most 127 after another is ahead of it
pub ahead_of_earlier : (numbering : Numbering) (k i : ℕ) → numbering.first ≤ 255 → k < i → i ≤ k + 127 → RunsOn numbering k i
    → is_ahead (number_of_frame numbering k) (number_of_frame numbering i) ≡ true
ahead_of_earlier numbering k i small later near runs =
    let e : i ≡ k + (i - k) = omega arith in
    rw (e, number_later numbering k (i - k) (λ index after within. runs index after (omega arith)))
    (later_is_ahead (number_of_frame numbering k) (i - k) (number_bound numbering k small) (omega arith) (omega arith))

-- a frame that is the same or at most 127 before another isn't ahead of it
pub not_ahead_of_later : (numbering : Numbering) (k i : ℕ) → numbering.first ≤ 255 → i ≤ k → k ≤ i + 127 → RunsOn numbering i k
    → is_ahead (number_of_frame numbering k) (number_of_frame numbering i) ≡ false
not_ahead_of_later numbering k i small earlier near runs =
    ⊎_elim
    (λ (less : i < k).
    let e : k ≡ i + (k - i) = omega arith in
    rw (e, number_later numbering i (k - i) (λ index after within. runs index after (omega arith)))
    (earlier_is_not (number_of_frame numbering i) (k - i) (number_bound numbering i small) (omega arith) (omega arith)))
    (λ (same : k ≤ i).
    let e : k ≡ i = omega arith in
    rw e (itself (number_of_frame numbering i)))
    (cases_lt i k)
