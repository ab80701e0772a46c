use Rattle.std.proofs.Common.{◌≡◌, ◌∙◌, [], None, Ok, ap, sym, rules}
use Rattle.hex_trace.specs.Lines.{said_with}
use Rattle.hex_trace.proofs.Ends.{one_line, told_fault, told_frames}
use Rattle.hex_trace.proofs.lines.Lines.finish.Goals.{then-is_none+in_ok-take_line, else-is_none}
use Rattle.hex_trace.proofs.lines.Lines.finish.Goals as goal

pub returns-in-Some : goal.returns-in-Some
returns-in-Some c = elim c.if-is_none.branch [
  | then-is_none+in_ok-take_line w ↦
      let none : c.args.self.fault ≡ None = search rules in
      ap (said_with c.args.self) (one_line c.args.last.now (c.requires none)) ∙ sym (w.in_ok-take_line.ensures.said []) ∙ told_fault w.take_line.new.self [] _ (ap (λ s. s.fault) (sym w.self-is) ∙ c.in-Some.is)
  | else-is_none w ↦ told_fault c.args.self _ _ (ap (λ s. s.fault) (sym w.self-is) ∙ c.in-Some.is)
]

pub returns-in_ok-close-in-None : goal.returns-in_ok-close-in-None
returns-in_ok-close-in-None c = elim c.if-is_none.branch [
  | then-is_none+in_ok-take_line w ↦
      let none : c.args.self.fault ≡ None = search rules in
      ap (said_with c.args.self) (one_line c.args.last.now (c.requires none)) ∙ sym (w.in_ok-take_line.ensures.said []) ∙ told_frames w.take_line.new.self (ap (λ s. s.fault) (sym w.self-is) ∙ c.in-None.is) ∙ ap (λ s. Ok s.frames) (sym w.self-is) ∙ ap Ok (sym c.in_ok-close-in-None.ensures)
  | else-is_none w ↦ search rules
]
