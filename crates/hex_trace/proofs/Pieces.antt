-- One piece after another.
use Rattle.std.proofs.Common.{◌≡◌, ◌∙◌, ℕ, ◌+◌, ◌≤◌, Bool, false, List, [], ◌++◌, Option, Result, Ok, Err, length, take, drop, append-nil, append_assoc, sym, ap, refl, subst}
use Rattle.std.specs.Io.KnownBytes.{Consumes, IsAtEnd}
use Rattle.std.proofs.KnownBytes.{Consumes-all, Consumes-trans}
use Rattle.std.proofs.lemmas.List.{take-append-drop, length-take-le}
use Rattle.std.proofs.Math.Seq.{take-append-add, take-length, drop-length}
use Rattle.hex_trace.specs.Frames.{TimedFrame}
use Rattle.hex_trace.specs.declared.fault.TraceCause.{TraceCause}
use Rattle.hex_trace.specs.declared.fault.TraceFault.{TraceFault}
use Rattle.hex_trace.specs.declared.fault.TraceFault.TheVariants.{Line, Read, Memory}
use Rattle.hex_trace.specs.Source.{Given, IsWholeText, ReadsMore, given_source}
use Rattle.hex_trace.specs.Lines.{TellsTrace, said_by}
use Rattle.hex_trace.specs.Reading.{Read as ReadSoFar, said_after}
use Rattle.hex_trace.specs.Progress.{IsEnd, ReadsOn}
use Rattle.hex_trace.specs.Trace.{Says, frames_of_text, ReadsTrace, with_front}

-- the front of a list, and then the front of the rest
pub take-add : (n m : ℕ) (xs : List ℕ) → n ≤ length xs → take n xs ++ take m (drop n xs) ≡ take (n + m) xs
take-add n m xs within =
    let joined = take-append-add (take n xs) (drop n xs) m in
    sym (rw (length-take-le n xs within, take-append-drop n xs) at joined)

-- what was lent is back
pub put_back : (len : ℕ) (old new : List ℕ) → len ≡ length old → length new ≡ length old → take len (new ++ drop (length new) old) ≡ new
put_back len old new is_len many =
    let none : drop (length new) old ≡ [] = ap (λ n. drop n old) many ∙ drop-length old in
    let whole : new ++ drop (length new) old ≡ new = ap (λ rest. new ++ rest) none ∙ append-nil new in
    ap (take len) whole ∙ ap (λ n. take n new) (is_len ∙ sym many) ∙ take-length new

-- reading on when nothing was read: a read failed, or memory ran out
pub not_read : (old new : Option (List ℕ)) (failed : Bool) (front : List ℕ) (text : ℕ → List ℕ) (before : ReadSoFar) (fault : TraceFault)
    → ReadsMore old new failed front text (Err fault) → ReadsOn old new failed before (Err fault)
not_read old new failed front text before (Line line cause) is = absurd is
not_read old new failed front text before Read is = is
not_read old new failed front text before Memory is = is

-- nothing more came
pub is_end : (old new : Option (List ℕ)) (failed : Bool) (bytes : List ℕ) → failed ≡ false → Consumes old new bytes → bytes ≡ [] → IsAtEnd new → IsEnd old new failed
is_end old new failed bytes fine consumed none end = (fine, subst (Consumes old new) none consumed, end)

-- the last line is the front of the line that hadn't ended
pub last_line : (before : ReadSoFar) (bytes last : List ℕ) → bytes ≡ [] → last ≡ before.front ++ bytes → said_by before.lines last ≡ said_after before []
last_line before bytes last none is = ap (said_by before.lines) (is ∙ ap (λ bs. before.front ++ bs) none)

-- the fault that the last line told
pub last_fault : (old new : Option (List ℕ)) (failed : Bool) (before : ReadSoFar) (said : Result (List TimedFrame) (ℕ × TraceCause)) (fault : TraceFault)
    → IsEnd old new failed → said ≡ said_after before [] → TellsTrace said (Err fault) → ReadsOn old new failed before (Err fault)
last_fault old new failed before said (Line line cause) end same told = (end, sym same ∙ told)
last_fault old new failed before said Read end same told = absurd told
last_fault old new failed before said Memory end same told = end.0

-- ---- a whole trace

-- these are all bytes of a source that has ended
pub ended_whole : (start old new : Option (List ℕ)) (failed : Bool) (bytes : List ℕ) → Consumes start old bytes → IsEnd old new failed → IsWholeText (given_source start failed) bytes
ended_whole start old new failed bytes consumed end =
    Consumes-all start new bytes [] bytes (subst (Consumes start new) (append-nil bytes) (Consumes-trans start old new bytes [] consumed end.1)) end.2 refl

-- no frames in front
pub with_none : (said : Result (List TimedFrame) (ℕ × TraceCause)) → with_front [] said ≡ said
with_none (Ok frames) = refl
with_none (Err fault) = refl

-- frames in front of those in front
pub with_both : (first then : List TimedFrame) (said : Result (List TimedFrame) (ℕ × TraceCause)) → with_front first (with_front then said) ≡ with_front (first ++ then) said
with_both first then (Ok frames) = ap (λ (xs : List TimedFrame). let read : Result (List TimedFrame) (ℕ × TraceCause) = Ok xs in read) (sym (append_assoc first then frames))
with_both first then (Err fault) = refl

-- what a trace said that was read to its end, and whose first frames were taken out before
pub whole_said : (given_source : Given) (text : List ℕ) (taken : List TimedFrame) (before : ReadSoFar) (said : Result (List TimedFrame) (ℕ × TraceCause))
    → given_source.failed ≡ false → IsWholeText given_source text → ((more : List ℕ) → frames_of_text (text ++ more) ≡ with_front taken (said_after before more))
    → said_after before [] ≡ said → Says given_source (with_front taken said)
whole_said given_source text taken before said fine whole so_far is = (fine, (text, whole, ap frames_of_text (sym (append-nil text)) ∙ so_far [] ∙ ap (with_front taken) is))

-- the fault with which a trace ended
pub whole_fault : (start old new : Option (List ℕ)) (failed : Bool) (bytes : List ℕ) (taken : List TimedFrame) (before : ReadSoFar) (fault : TraceFault)
    → Consumes start old bytes → ((more : List ℕ) → frames_of_text (bytes ++ more) ≡ with_front taken (said_after before more)) → ReadsOn old new failed before (Err fault)
    → ReadsTrace (given_source start failed) (Err fault)
whole_fault start old new failed bytes taken before (Line line cause) consumed so_far told =
    whole_said (given_source start failed) bytes taken before (Err (line, cause)) told.0.0 (ended_whole start old new failed bytes consumed told.0) so_far told.1
whole_fault start old new failed bytes taken before Read consumed so_far told = told
whole_fault start old new failed bytes taken before Memory consumed so_far told = told
