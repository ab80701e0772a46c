use Rattle.std.proofs.Common.{◌∙◌, ◌++◌, [], append_assoc, ap, rules, sym}
use Rattle.std.proofs.KnownBytes.{Consumes-trans}
use Rattle.std.proofs.lemmas.Result.{err_from_is_err_and}
use Rattle.hex_trace.specs.Trace.{frames_of_text, with_front}
use Rattle.hex_trace.proofs.Pieces.{ended_whole, whole_fault, whole_said, with_none}
use Rattle.hex_trace.proofs.trace.read_trace.Goals as goal

pub pieces-init : goal.pieces-init
pieces-init g c =
    record {
      bytes = [];
      consumed = search rules;
      said = λ text. sym (c.new-reading.ensures text) ∙ sym (with_none _);
      flag = c.requires;
    }

pub returns-in_err-frames : goal.returns-in_err-frames
returns-in_err-frames g c =
    let before = c.pieces.invariant in
    let returned = err_from_is_err_and c.from_residual.result c.from_residual.ensures.1 in
    rw (returned.1, returned.2) (whole_fault _ _ _ _ before.bytes [] c.pieces.reading _ before.consumed before.said c.in_err-frames.ensures)

pub returns-in-Ended : goal.returns-in-Ended
returns-in-Ended g c =
    let remaining = g.S.Source.remaining in
    let before = c.pieces.invariant in
    let told = rw c.in-Ended.is at c.in_ok-frames.ensures in
    let whole = ended_whole (remaining c.args.source.now) (remaining c.pieces.source) (remaining c.read_on.new.source) _ before.bytes before.consumed told.0 in
    whole_said _ before.bytes [] c.pieces.reading _ told.0.0 whole before.said told.1

pub pieces-preserved : goal.pieces-preserved
pieces-preserved g c =
    let remaining = g.S.Source.remaining in
    let before = c.pieces.invariant in
    let told = rw c.in-More.is at c.in_ok-frames.ensures in
    record {
      bytes = before.bytes ++ told.1.0;
      consumed = Consumes-trans (remaining c.args.source.now) (remaining c.pieces.source) (remaining c.read_on.new.source) before.bytes told.1.0 before.consumed told.1.1;
      said = λ more. ap frames_of_text (append_assoc before.bytes told.1.0 more) ∙ before.said (told.1.0 ++ more) ∙ ap (with_front []) (sym (told.1.2 more));
      flag = told.0;
    }
