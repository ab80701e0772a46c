-- Where octets came: after a piece more, where none came, and whether a datagram's octets all came.
use Rattle.std.proofs.Common.{◌≡◌, ◌∙◌, ap, sym, ◌⊎◌, ℕ, zero, suc, ◌+◌, ◌-◌, ◌<◌, ◌≤◌, ⊎_elim, inl, inr, Bool, true, false, List, [], ◌∷◌, ◌++◌, length, take, drop, replicate, slice_index_or, refl, arith}
use Rattle.std.proofs.lemmas.Bool.{cases_lt, false≢true}
use Rattle.std.proofs.lemmas.List.{replicate-append-replicate, take-append-drop}
use Rattle.std.proofs.lemmas.Grind.{common_steps}
use Rattle.ip_reassembly.specs.declared.runs.Runs.{Runs}
use Rattle.ip_reassembly.specs.Covering.{AreCovered}
use Rattle.ip_reassembly.specs.Runs.{AreRuns, ReceivedWithin, IsRunOfMarks, with_marks}

-- ---- a mark with those of a piece

set_in : (marks : List Bool) (offset end i : ℕ) → end ≤ length marks → offset ≤ i → i < end → slice_index_or (with_marks marks offset end) i false ≡ true
set_in marks offset end i within above below = grind (arith, common_steps)

pub kept_before : (marks : List Bool) (offset end i : ℕ) → offset ≤ end → end ≤ length marks → i < offset → slice_index_or (with_marks marks offset end) i false ≡ slice_index_or marks i false
kept_before marks offset end i order within before = grind (arith, common_steps)

pub kept_past : (marks : List Bool) (offset end i : ℕ) → offset ≤ end → end ≤ length marks → end ≤ i → slice_index_or (with_marks marks offset end) i false ≡ slice_index_or marks i false
kept_past marks offset end i order within past = grind (arith, common_steps)

-- a mark is set if it was or is the piece's
set_after : (marks : List Bool) (offset end i : ℕ) → offset ≤ end → end ≤ length marks → ((offset ≤ i) × (i < end)) ⊎ (slice_index_or marks i false ≡ true)
    → slice_index_or (with_marks marks offset end) i false ≡ true
set_after marks offset end i order within (inl (above, below)) = set_in marks offset end i within above below
set_after marks offset end i order within (inr on) =
    ⊎_elim
    (λ (before : i < offset). kept_before marks offset end i order within before ∙ on)
    (λ (above : offset ≤ i).
    ⊎_elim
    (λ (below : i < end). set_in marks offset end i within above below)
    (λ (past : end ≤ i). kept_past marks offset end i order within past ∙ on)
    (cases_lt i end))
    (cases_lt i offset)

run_after : (marks : List Bool) (offset end from to : ℕ) → offset ≤ end → end ≤ length marks
    → ((i : ℕ) → from ≤ i → i < to → ((offset ≤ i) × (i < end)) ⊎ (slice_index_or marks i false ≡ true)) → IsRunOfMarks (with_marks marks offset end) from to
run_after marks offset end from to order within each = λ i above below. set_after marks offset end i order within (each i above below)

-- no piece
pub no_piece : (marks : List Bool) (offset : ℕ) → with_marks marks offset offset ≡ marks
no_piece marks offset =
    let none : offset - offset ≡ 0 = omega arith in
    rw none (take-append-drop offset marks)

-- ---- the first run

pub first_that_goes_on : (marks : List Bool) (offset end gap to : ℕ) → offset ≤ end → end ≤ length marks → IsRunOfMarks marks 0 gap → offset ≤ gap → IsRunOfMarks marks end to
    → IsRunOfMarks (with_marks marks offset end) 0 to
first_that_goes_on marks offset end gap to order within first near rest =
    run_after marks offset end 0 to order within (λ i from below.
    ⊎_elim
    (λ (before : i < end).
    ⊎_elim
    (λ (early : i < offset). inr (first i from (omega arith)))
    (λ (above : offset ≤ i). inl (above, before))
    (cases_lt i offset))
    (λ (past : end ≤ i). inr (rest i past below))
    (cases_lt i end))

-- ---- a run in parts

pub run_goes_on : (marks : List Bool) (from place n m : ℕ) → n ≤ m → IsRunOfMarks marks from place → ((i : ℕ) → i < n → slice_index_or (take m (drop place marks)) i false ≡ true)
    → IsRunOfMarks marks from (place + n)
run_goes_on marks from place n m most run part = λ i above below.
    ⊎_elim
    (λ (before : i < place). run i above before)
    (λ (past : place ≤ i).
    let inside : i - place < m = omega (arith, most, below, past) in
    let same : slice_index_or (take m (drop place marks)) (i - place) false ≡ slice_index_or marks i false = grind (arith, common_steps) in
    sym same ∙ part (i - place) (omega arith))
    (cases_lt i place)

-- ---- where none came

-- with a piece more, those that are set lie within any stretch that has both
pub came_within_both : (marks : List Bool) (offset end least reach low high : ℕ) → offset ≤ end → end ≤ length marks → ReceivedWithin marks least reach
    → low ≤ least → low ≤ offset → reach ≤ high → end ≤ high → ReceivedWithin (with_marks marks offset end) low high
came_within_both marks offset end least reach low high order inside within low_least low_piece high_reach high_piece = record {
  none_before = λ i less. kept_before marks offset end i order inside (omega arith) ∙ within.none_before i (omega arith);
  none_from = λ i above. kept_past marks offset end i order inside (omega arith) ∙ within.none_from i (omega arith);
}

-- they lie within a longer stretch, too
pub came_within_longer : (marks : List Bool) (least reach low : ℕ) → low ≤ least → ReceivedWithin marks least reach → ReceivedWithin marks low reach
came_within_longer marks least reach low order within = record {
  none_before = λ i less. within.none_before i (omega arith);
  none_from = within.none_from;
}

off : (n i : ℕ) → slice_index_or (replicate n false) i false ≡ false
off n i = grind (arith, common_steps)

pub no_runs : (n least : ℕ) → AreRuns (replicate n false) (record { least = least; gap = 0; last = 0; reach = 0 })
no_runs n least = record {
  within = record {
    none_before = λ i less. off n i;
    none_from = λ i above. off n i;
  };
  first = λ i above below. absurd (omega arith);
  gap = off n 0;
  last = λ i above below. absurd (omega arith);
  order = omega arith;
  gap_bound = omega arith;
  reach_bound = omega arith;
}

-- ---- none is set any more

-- none of the first marks, if none of them is set
pub none_first : (marks : List Bool) (n : ℕ) → n ≤ length marks → ((i : ℕ) → i < n → slice_index_or marks i false ≡ false) → take n marks ≡ replicate n false
none_first marks zero within none = refl
none_first [] (suc n) within none = absurd (omega (arith, within))
none_first (mark ∷ marks) (suc n) within none =
    let off : mark ≡ false = none 0 (omega arith) in
    rw off (ap (λ (rest : List Bool). false ∷ rest) (none_first marks n (omega (arith, within)) (λ i less. none (suc i) (omega arith))))

pub none_last : (marks : List Bool) (n : ℕ) → ((i : ℕ) → n ≤ i → slice_index_or marks i false ≡ false) → drop n marks ≡ replicate (length marks - n) false
none_last [] n none = grind (arith, common_steps)
none_last (mark ∷ marks) zero none =
    let off : mark ≡ false = none 0 (omega arith) in
    let rest = none_last marks 0 (λ i above. none (suc i) (omega arith)) in
    let long : length (mark ∷ marks) - 0 ≡ suc (length marks - 0) = omega arith in
    rw (long, off) (ap (λ (ms : List Bool). false ∷ ms) rest)
none_last (mark ∷ marks) (suc n) none =
    let rest = none_last marks n (λ i above. none (suc i) (omega arith)) in
    let long : length (mark ∷ marks) - suc n ≡ length marks - n = omega arith in
    rw long rest

in_three : (a b c n : ℕ) → a + (b + c) ≡ n → replicate a false ++ (replicate b false ++ replicate c false) ≡ replicate n false
in_three a b c n sum = rw (replicate-append-replicate, replicate-append-replicate, sum) refl

-- without those of the stretch
pub unset_within : (marks : List Bool) (least reach : ℕ) → least ≤ reach → reach ≤ length marks → ReceivedWithin marks least reach
    → take least marks ++ (replicate (reach - least) false ++ drop reach marks) ≡ replicate (length marks) false
unset_within marks least reach order within stretch =
    let front = none_first marks least (omega arith) stretch.none_before in
    let back = none_last marks reach stretch.none_from in
    rw (front, back) (in_three least (reach - least) (length marks - reach) (length marks) (omega arith))

-- a stretch without an octet
pub none_within : (marks : List Bool) (least reach : ℕ) → reach ≤ least → ReceivedWithin marks least reach → marks ≡ replicate (length marks) false
none_within marks least reach order stretch =
    let long : length marks - 0 ≡ length marks = omega arith in
    rw long at (none_last marks 0 (λ i above.
    ⊎_elim
    (λ (before : i < least). stretch.none_before i before)
    (λ (past : least ≤ i). stretch.none_from i (omega arith))
    (cases_lt i least)))

-- ---- whether all came

inside : (marks : List Bool) (offset end i : ℕ) → offset ≤ end → end ≤ length marks → slice_index_or (with_marks marks offset end) i false ≡ true
    → (slice_index_or marks i false ≡ true) ⊎ ((offset ≤ i) × (i < end))
inside marks offset end i order within on =
    ⊎_elim
    (λ (before : i < offset). inl (sym (kept_before marks offset end i order within before) ∙ on))
    (λ (above : offset ≤ i).
    ⊎_elim
    (λ (in_piece : i < end). inr (above, in_piece))
    (λ (past : end ≤ i). inl (sym (kept_past marks offset end i order within past) ∙ on))
    (cases_lt i end))
    (cases_lt i offset)

outside : (marks : List Bool) (offset end total i : ℕ) → offset ≤ end → end ≤ length marks → i < total → slice_index_or (with_marks marks offset end) i false ≡ false
    → AreCovered marks offset end total false
outside marks offset end total i order within below gap =
    ⊎_elim
    (λ (before : i < offset). (i, below, sym (kept_before marks offset end i order within before) ∙ gap, inl before))
    (λ (above : offset ≤ i).
    ⊎_elim
    (λ (in_piece : i < end). absurd (false≢true (sym gap ∙ set_in marks offset end i within above in_piece)))
    (λ (past : end ≤ i). (i, below, sym (kept_past marks offset end i order within past) ∙ gap, inr past))
    (cases_lt i end))
    (cases_lt i offset)

pub all_covered : (marks : List Bool) (offset end total : ℕ) (runs : Runs) → offset ≤ end → end ≤ length marks → AreRuns (with_marks marks offset end) runs → total ≤ runs.gap
    → AreCovered marks offset end total true
all_covered marks offset end total runs order within are enough = λ i below.
    inside marks offset end i order within (are.first i (omega arith) (omega (arith, below, enough)))

pub not_covered : (marks : List Bool) (offset end total : ℕ) (runs : Runs) → offset ≤ end → end ≤ length marks → AreRuns (with_marks marks offset end) runs → runs.gap < total
    → AreCovered marks offset end total false
not_covered marks offset end total runs order within are short = outside marks offset end total runs.gap order within short are.gap
