-- Where lines end.
use Rattle.std.proofs.Common.{◌≡◌, ◌∙◌, ℕ, ◌+◌, ◌<◌, ◌≤◌, ⊎_elim, true, false, List, [], ◌∷◌, ◌++◌, Option, None, Some, Result, Ok, Err, length, take, drop, get_or, append-nil, ap, sym, refl, arith}
use Rattle.std.specs.List.{onto_first, slice_split, position_or_len}
use Rattle.std.proofs.Math.ListN.{get_or-append}
use Rattle.std.proofs.lemmas.Bool.{cases_Bool, false_from_ne_true, lt-ltb}
use Rattle.std.proofs.lemmas.List.{drop-append-le, length-append, take-append-le}
use Rattle.std.proofs.lemmas.List.Elements.{All-head, All-tail}
use Rattle.std.proofs.lemmas.List.Splits.{slice_split-cons_no, slice_split-cons_yes, slice_split_none, slice_split_first}
use Rattle.std.proofs.lemmas.List.Sums.{position_or_len_is}
use Rattle.hex_trace.specs.Frames.{TimedFrame}
use Rattle.hex_trace.specs.declared.fault.TraceCause.{TraceCause}
use Rattle.hex_trace.specs.declared.fault.TraceCause.TheVariants.{LongLine}
use Rattle.hex_trace.specs.declared.lines.Lines.{Lines}
use Rattle.hex_trace.specs.Line.{frame_from}
use Rattle.hex_trace.specs.Lines.{HasNoEnd, said_if, said_with}
use Rattle.hex_trace.specs.Trace.{is_line_end, with_front, and_then, frames_from}

-- where the first line ends, whatever follows the text
pub first_line : (text : List ℕ) (end : ℕ) → end < length text → ((k : ℕ) → 0 ≤ k → k < end → is_line_end (get_or text k 0) ≡ true → ⊥) → is_line_end (get_or text end 0) ≡ true
    → slice_split is_line_end text ≡ take end text ∷ slice_split is_line_end (drop (end + 1) text)
first_line text end within before ends =
    let place : position_or_len is_line_end text ≡ end =
    position_or_len_is is_line_end text end 0 (omega arith) (λ k below. false_from_ne_true _ (before k (omega arith) below)) (λ _. ends) in
    rw place at (slice_split_first is_line_end text 0 (rw place within))

pub first_line_of : (text more : List ℕ) (end : ℕ) → end < length text → ((k : ℕ) → 0 ≤ k → k < end → is_line_end (get_or text k 0) ≡ true → ⊥) → is_line_end (get_or text end 0) ≡ true
    → slice_split is_line_end (text ++ more) ≡ take end text ∷ slice_split is_line_end (drop (end + 1) text ++ more)
first_line_of text more end within before ends =
    let longer : end < length (text ++ more) = omega (arith, length-append text more) in
    let same : (k : ℕ) → k < length text → get_or (text ++ more) k 0 ≡ get_or text k 0 = λ k below. get_or-append text more 0 k below in
    rw (take-append-le end text more (omega arith), drop-append-le (end + 1) text more (omega arith)) at
    (first_line (text ++ more) end longer (λ k low below is. before k low below (ap is_line_end (sym (same k (omega arith))) ∙ is)) (ap is_line_end (same end within) ∙ ends))

-- a text has a first line
split_cons : (text : List ℕ) → (line : List ℕ) × ((lines : List (List ℕ)) × (slice_split is_line_end text ≡ line ∷ lines))
split_cons [] = ([], ([], refl))
split_cons (b ∷ bs) =
    let rest = split_cons bs in
    ⊎_elim
    (λ (is : is_line_end b ≡ true). ([], (slice_split is_line_end bs, slice_split-cons_yes is_line_end b bs is)))
    (λ (is : is_line_end b ≡ false). (b ∷ rest.0, (rest.1.0, slice_split-cons_no is_line_end b bs is ∙ ap (onto_first b) rest.1.1)))
    (cases_Bool (is_line_end b))

-- if no line ends, the first line is at least as long
long_line : (front more : List ℕ) → HasNoEnd front → (line : List ℕ) × ((lines : List (List ℕ)) × (slice_split is_line_end (front ++ more) ≡ line ∷ lines) × (length front ≤ length line))
long_line [] more none = let first = split_cons more in (first.0, (first.1.0, first.1.1, omega arith))
long_line (b ∷ bs) more none =
    let rest = long_line bs more (All-tail (λ b. is_line_end b ≡ false) b bs none) in
    (b ∷ rest.0, (rest.1.0, slice_split-cons_no is_line_end b (bs ++ more) (All-head (λ b. is_line_end b ≡ false) b bs none) ∙ ap (onto_first b) rest.1.1, omega (arith, rest.1.2)))

-- a line that is too long
too_long : (before : ℕ) (line : List ℕ) → 8192 < length line → frame_from before line ≡ Err LongLine
unfolding frame_from
too_long before line long = rw (lt-ltb 8192 (length line) long) refl

-- a line that is too long before its end has come
pub refused : (line_number before : ℕ) (frames : List TimedFrame) (front more : List ℕ) → HasNoEnd front → 8192 < length front
    → with_front frames (frames_from line_number before (slice_split is_line_end (front ++ more))) ≡ Err (line_number, LongLine)
refused line_number before frames front more none long =
    let first = long_line front more none in
    let line = first.0 in
    let bad : frame_from before line ≡ Err LongLine = too_long before line (omega (arith, long, first.1.2)) in
    let next : ℕ → Result (List TimedFrame) (ℕ × TraceCause) = λ time. frames_from (line_number + 1) time first.1.0 in
    ap (λ lines. with_front frames (frames_from line_number before lines)) first.1.1 ∙ ap (λ (read : Result (Option TimedFrame) TraceCause). with_front frames (and_then line_number before read next)) bad

-- a text in which no line ends is one line
pub one_line : (text : List ℕ) → HasNoEnd text → slice_split is_line_end text ≡ text ∷ []
one_line text none = slice_split_none is_line_end text none

-- what was told when a fault had come
pub told_fault : (lines : Lines) (xs : List (List ℕ)) (fault : ℕ × TraceCause) → lines.fault ≡ Some fault → said_with lines xs ≡ Err fault
told_fault lines xs fault is = ap (λ f. said_if f (with_front lines.frames (frames_from lines.line_number lines.before xs))) is

-- and when none had
pub told_frames : (lines : Lines) → lines.fault ≡ None → said_with lines [] ≡ Ok lines.frames
told_frames lines is = ap (λ f. said_if f (with_front lines.frames (frames_from lines.line_number lines.before []))) is ∙ ap Ok (append-nil lines.frames)
