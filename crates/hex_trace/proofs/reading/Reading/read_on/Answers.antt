use Rattle.std.proofs.Common.{◌≡◌, ◌∙◌, ◌+◌, ◌≤◌, ◌++◌, append_assoc, length, take, ap, sym, subst, arith, rules}
use Rattle.std.proofs.lemmas.Result.{err_from_is_err_and}
use Rattle.hex_trace.specs.Lines.{said_by, HasNoEnd}
use Rattle.hex_trace.specs.Reading.{read_so_far, said_after}
use Rattle.hex_trace.proofs.Pieces.{is_end, last_fault, last_line, not_read, put_back}
use Rattle.hex_trace.proofs.reading.Reading.read_on.Goals as goal

pub returns-in_err-count : goal.returns-in_err-count
returns-in_err-count g c =
    let returned = err_from_is_err_and c.from_residual.result c.from_residual.ensures.1 in
    rw (returned.1, returned.2) (not_read _ _ _ (take c.self.inside.filled c.self.inside.text.items) (λ count. take (c.self.inside.filled + count) c.read_more.new.text.items) c.args.self _ c.in_err-count.ensures.bytes)

pub returns-in_err-finish : goal.returns-in_err-finish
returns-in_err-finish g c =
    let remaining = g.S.Source.remaining in
    let read = c.in_ok-count.ensures.bytes in
    let filled = c.self.inside.filled in
    let ended = read.1.3 c.if-count-eq0.true in
    let same : filled ≡ filled + c.in_ok-count.count = omega (arith, c.if-count-eq0.true) in
    let last = ap (take filled) c.deref.ensures.value ∙ ap (λ n. take n c.read_more.new.text.items) same ∙ read.1.2 in
    let before = read_so_far c.self.inside.lines (take filled c.self.inside.text.items) in
    let end = is_end (remaining c.args.source.now) (remaining c.read_more.new.source) _ read.1.0 read.0 read.1.1 ended.0 ended.1 in
    let returned = err_from_is_err_and c.from_residual-in_err-finish.result c.from_residual-in_err-finish.ensures.1 in
    rw (← c.self.view_is, returned.1, returned.2) (last_fault _ _ _ before _ _ end (last_line before read.1.0 _ ended.0 last) c.in_err-finish.ensures)

pub returns-then-count-eq0 : goal.returns-then-count-eq0
returns-then-count-eq0 g c =
    let remaining = g.S.Source.remaining in
    let read = c.in_ok-count.ensures.bytes in
    let filled = c.self.inside.filled in
    let ended = read.1.3 c.if-count-eq0.true in
    let same : filled ≡ filled + c.in_ok-count.count = omega (arith, c.if-count-eq0.true) in
    let last = ap (take filled) c.deref.ensures.value ∙ ap (λ n. take n c.read_more.new.text.items) same ∙ read.1.2 in
    let before = read_so_far c.self.inside.lines (take filled c.self.inside.text.items) in
    let end = is_end (remaining c.args.source.now) (remaining c.read_more.new.source) _ read.1.0 read.0 read.1.1 ended.0 ended.1 in
    rw (← c.self.view_is) (end, sym (last_line before read.1.0 _ ended.0 last) ∙ c.in_ok-finish.ensures)

pub returns-in_err-filled : goal.returns-in_err-filled
returns-in_err-filled g c =
    let returned = err_from_is_err_and c.from_residual-in_err-filled.result c.from_residual-in_err-filled.ensures.1 in
    rw (returned.1, returned.2) c.in_ok-count.ensures.bytes.0

pub invariant_of-result : goal.invariant_of-result
invariant_of-result g c =
    let read_text = c.read_more.new.text.items in
    let new = c.take_piece.new.text in
    let lent = c.deref_mut.ensures.value in
    let whole : length new ≡ length read_text = c.in_ok-filled.ensures.whole ∙ ap length lent in
    let back = put_back c.read_more.new.text.len read_text new (search rules) whole in (
      subst (λ text. c.in_ok-filled.filled ≤ length text) (sym back) c.in_ok-filled.ensures.within,
      λ none. subst (λ text. HasNoEnd (take c.in_ok-filled.filled text)) (sym back) (c.in_ok-filled.ensures.rest none),
    )

pub returns : goal.returns
returns g c =
    let read = c.in_ok-count.ensures.bytes in
    let filled = c.self.inside.filled in
    let lines = c.self.inside.lines in
    let read_text = c.read_more.new.text.items in
    let new = c.take_piece.new.text in
    let lent = c.deref_mut.ensures.value in
    let whole : length new ≡ length read_text = c.in_ok-filled.ensures.whole ∙ ap length lent in
    let back = put_back c.read_more.new.text.len read_text new (search rules) whole in
    let front = ap (take (filled + c.in_ok-count.count)) lent ∙ read.1.2 in (
      read.0,
      (
        read.1.0,
        read.1.1,
        λ more.
            ap (λ text. said_by c.take_piece.new.lines (take c.in_ok-filled.filled text ++ more)) back
            ∙ c.in_ok-filled.ensures.said more
            ∙ ap (λ text. said_by lines (text ++ more)) front
            ∙ ap (said_by lines) (append_assoc (take filled c.self.inside.text.items) read.1.0 more)
            ∙ ap (λ r. said_after r (read.1.0 ++ more)) c.self.view_is,
      ),
    )
