use Rattle.std.proofs.Common.{◌∙◌, ◌++◌, ap, sym, subst}
use Rattle.hex_trace.specs.Lines.{said_by, HasNoEnd}
use Rattle.hex_trace.proofs.trace.take_piece.Goals as goal

pub returns-clause-said : goal.returns-clause-said
returns-clause-said c more = ap (λ bs. said_by c.take_lines.new.self (bs ++ more)) c.move_to_front.ensures.front ∙ c.in_ok-taken.ensures.said more

pub returns-clause-rest : goal.returns-clause-rest
returns-clause-rest c none = subst HasNoEnd (sym c.move_to_front.ensures.front) (c.in_ok-taken.ensures.rest none)
