-- Where no copy of a frame is overtaken, the new copies are the first copies.
use Rattle.std.proofs.Common.{◌≡◌, ◌∙◌, sym, ap, ℕ, ◌<◌, ◌≤◌, Bool, true, false, not, List, [], ◌∷◌, refl, ⊎_elim, arith, suc, length, drop}
use Rattle.std.specs.Prelude.{◌==◌, ◌||◌, max, if◌then◌else◌}
use Rattle.std.proofs.lemmas.Bool.{cases_Bool, cases_lt, lt-ltb, le-ltb, ltb-true, ltb-false, eqb-true, eqb-false, eq-eqb, or_cases, or_left, or_parts, or_right, both_ways}
use Rattle.frame_delivery.specs.Sending.{Copy, EachCopy}
use Rattle.frame_delivery.proofs.Cases.{by_if}
use Rattle.frame_delivery.specs.Once.{FirstsInOrder, IsNotOvertaken, IsOvertaken, first_copies, greatest_index, has_come, is_new, new_copies}

pub come_at_most : (index : ℕ) (copies : List Copy) → has_come index copies ≡ true → index ≤ greatest_index copies
come_at_most index [] come = cc
come_at_most index (copy ∷ before) come =
    ⊎_elim
    (λ (is : (copy.index == index) ≡ true). let e = eqb-true copy.index index is in omega arith)
    (λ (is : has_come index before ≡ true). let rest = come_at_most index before is in omega arith)
    (or_cases (copy.index == index) (has_come index before) come)

-- a frame of which a copy came among some of the copies came
pub come_among : (test : Bool) (index : ℕ) (copy : Copy) (some before : List Copy) → (has_come index some ≡ true → has_come index before ≡ true) → has_come index (if test then copy ∷ some else some) ≡ true
    → has_come index (copy ∷ before) ≡ true
come_among true index copy some before rest come =
    ⊎_elim
    (λ (here : (copy.index == index) ≡ true). or_left _ _ here)
    (λ (there : has_come index some ≡ true). or_right _ _ (rest there))
    (or_cases (copy.index == index) (has_come index some) come)
come_among false index copy some before rest come = or_right _ _ (rest come)

-- a new copy is the first of its frame
pub new_has_not_come : (index : ℕ) (copies : List Copy) → is_new index copies ≡ true → has_come index copies ≡ false
new_has_not_come index [] new = refl
new_has_not_come index (copy ∷ before) new =
    let later : greatest_index (copy ∷ before) < index = ltb-true (greatest_index (copy ∷ before)) index new in
    ⊎_elim
    (λ (is : has_come index (copy ∷ before) ≡ true). let most = come_at_most index (copy ∷ before) is in absurd (omega arith))
    (λ (is : has_come index (copy ∷ before) ≡ false). is)
    (cases_Bool (has_come index (copy ∷ before)))

pub new_are_first : (copies : List Copy) → FirstsInOrder copies → new_copies copies ≡ first_copies copies
new_are_first [] each = refl
new_are_first (copy ∷ before) each =
    let rest = new_are_first before each.1 in
    ⊎_elim
    (λ (new : is_new copy.index before ≡ true). rw (new, new_has_not_come copy.index before new) (ap (λ copies. copy ∷ copies) rest))
    (λ (old : is_new copy.index before ≡ false). rw (old, each.0 old) rest)
    (cases_Bool (is_new copy.index before))

-- and they are the first copies only there
fewer_new : (copies : List Copy) → length (new_copies copies) ≤ length (first_copies copies)
fewer_new [] = omega arith
fewer_new (copy ∷ before) =
    let rest = fewer_new before in
    ⊎_elim
    (λ (new : is_new copy.index before ≡ true). rw (new, new_has_not_come copy.index before new) (omega (arith, rest)))
    (λ (old : is_new copy.index before ≡ false).
    ⊎_elim
    (λ (come : has_come copy.index before ≡ true). rw (old, come) rest)
    (λ (first : has_come copy.index before ≡ false). rw (old, first) (omega (arith, rest)))
    (cases_Bool (has_come copy.index before)))
    (cases_Bool (is_new copy.index before))

longer : (one two : ℕ) → one ≤ two → one ≡ suc two → ⊥
longer one two most e = absurd (omega (arith, most, e))

pub first_are_new : (copies : List Copy) → new_copies copies ≡ first_copies copies → FirstsInOrder copies
first_are_new [] same = tt
first_are_new (copy ∷ before) same =
    ⊎_elim
    (λ (new : is_new copy.index before ≡ true).
    let both : copy ∷ new_copies before ≡ copy ∷ first_copies before = rw (new, new_has_not_come copy.index before new) at same in
    ((λ old. absurd (both_ways (is_new copy.index before) old new)), first_are_new before (ap (drop 1) both)))
    (λ (old : is_new copy.index before ≡ false).
    ⊎_elim
    (λ (come : has_come copy.index before ≡ true). ((λ is. come), first_are_new before (rw (old, come) at same)))
    (λ (first : has_come copy.index before ≡ false).
    let more : new_copies before ≡ copy ∷ first_copies before = rw (old, first) at same in
    absurd (longer (length (new_copies before)) (length (first_copies before)) (fewer_new before) (ap length more)))
    (cases_Bool (has_come copy.index before)))
    (cases_Bool (is_new copy.index before))

-- each frame of which a copy came has a first copy, and no other frame has one
pub all_have_first : (index : ℕ) (copies : List Copy) → has_come index (first_copies copies) ≡ has_come index copies
all_have_first index [] = refl
all_have_first index (copy ∷ before) =
    let rest = all_have_first index before in
    ⊎_elim
    (λ (come : has_come copy.index before ≡ true).
    ⊎_elim
    (λ (is : (copy.index == index) ≡ true).
    let e : has_come index before ≡ true = ap (λ (i : ℕ). has_come i before) (sym (eqb-true copy.index index is)) ∙ come in
    rw (come, is) (rest ∙ e))
    (λ (is : (copy.index == index) ≡ false). rw (come, is) rest)
    (cases_Bool (copy.index == index)))
    (λ (first : has_come copy.index before ≡ false). rw first (ap (λ (b : Bool). (copy.index == index) || b) rest))
    (cases_Bool (has_come copy.index before))

-- what holds of each copy holds of the first ones
pub each_first : (Holds : Copy → Type 0) (copies : List Copy) → EachCopy (λ before copy. Holds copy) copies → EachCopy (λ before copy. Holds copy) (first_copies copies)
each_first Holds [] each = tt
each_first Holds (copy ∷ before) each =
    let rest = each_first Holds before each.1 in by_if (EachCopy (λ before copy. Holds copy)) (has_come copy.index before) (first_copies before) (copy ∷ first_copies before) (λ come. rest) (λ first. (each.0, rest))

-- a copy that isn't overtaken is new exactly if it is the first of its frame
pub new_is_first : (copy : Copy) (before : List Copy) → IsNotOvertaken before copy → is_new copy.index before ≡ not (has_come copy.index before)
new_is_first copy before apart =
    ⊎_elim
    (λ (new : is_new copy.index before ≡ true). rw (new, new_has_not_come copy.index before new) refl)
    (λ (old : is_new copy.index before ≡ false). rw (old, apart old) refl)
    (cases_Bool (is_new copy.index before))

-- ---- where copies are overtaken

greatest_is_new : (copy : Copy) (before : List Copy) → has_come (greatest_index (copy ∷ before)) (new_copies (copy ∷ before)) ≡ true
greatest_is_new copy [] = or_left _ _ (eq-eqb copy.index (max copy.index 0) (omega arith))
greatest_is_new copy (other ∷ before) =
    let greatest : ℕ = greatest_index (other ∷ before) in
    ⊎_elim
    (λ (less : greatest < copy.index).
    rw (lt-ltb greatest copy.index less) (or_left _ _ (eq-eqb copy.index (max copy.index greatest) (omega arith))))
    (λ (more : copy.index ≤ greatest).
    let e : max copy.index greatest ≡ greatest = omega arith in
    rw (le-ltb greatest copy.index more) (ap (λ (index : ℕ). has_come index (new_copies (other ∷ before))) e ∙ greatest_is_new other before))
    (cases_lt greatest copy.index)

new_came : (index : ℕ) (copies : List Copy) → has_come index (new_copies copies) ≡ true → has_come index copies ≡ true
new_came index [] come = come
new_came index (copy ∷ before) come = come_among (is_new copy.index before) index copy (new_copies before) before (new_came index before) come

-- a copy of the latest frame came
pub latest_has_come : (copy : Copy) (before : List Copy) → has_come (greatest_index (copy ∷ before)) (copy ∷ before) ≡ true
latest_has_come copy before = new_came (greatest_index (copy ∷ before)) (copy ∷ before) (greatest_is_new copy before)

old_is_overtaken : (index : ℕ) (copy : Copy) (before : List Copy) → is_new copy.index before ≡ false → has_come index (new_copies before) ≡ false → copy.index ≡ index → index < greatest_index before
old_is_overtaken index copy [] old lost same = cc
old_is_overtaken index copy (other ∷ before) old lost same =
    let most : copy.index ≤ greatest_index (other ∷ before) = ltb-false (greatest_index (other ∷ before)) copy.index old in
    ⊎_elim
    (λ (less : index < greatest_index (other ∷ before)). less)
    (λ (more : greatest_index (other ∷ before) ≤ index).
    let e : index ≡ greatest_index (other ∷ before) = omega arith in
    absurd (both_ways (has_come index (new_copies (other ∷ before))) lost (ap (λ (i : ℕ). has_come i (new_copies (other ∷ before))) e ∙ greatest_is_new other before)))
    (cases_lt index (greatest_index (other ∷ before)))

-- a frame is lost only if each of its copies is overtaken
pub lost_is_overtaken : (copies : List Copy) (index : ℕ) → has_come index (new_copies copies) ≡ false → IsOvertaken index copies
lost_is_overtaken [] index lost = tt
lost_is_overtaken (copy ∷ before) index lost =
    ⊎_elim
    (λ (new : is_new copy.index before ≡ true).
    let parts = or_parts (copy.index == index) (has_come index (new_copies before)) (rw new at lost) in
    (λ same. absurd (eqb-false copy.index index parts.0 same), lost_is_overtaken before index parts.1))
    (λ (old : is_new copy.index before ≡ false).
    let rest = rw old at lost in
    (λ same. old_is_overtaken index copy before old rest same, lost_is_overtaken before index rest))
    (cases_Bool (is_new copy.index before))
