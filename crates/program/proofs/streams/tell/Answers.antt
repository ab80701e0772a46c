use Rattle.std.proofs.lemmas.Result.{on_ok_weaker}
use Rattle.std.specs.Io.KnownBytes.{Appends}
use Rattle.program.specs.Fault.{run_fault_text}
use Rattle.program.proofs.Explaining.{ends_explained, line_says}
use Rattle.program.proofs.streams.tell.Goals as goal

pub returns-in_ok-writeln-in-Explained-clause-explained : goal.returns-in_ok-writeln-in-Explained-clause-explained
returns-in_ok-writeln-in-Explained-clause-explained g c =
    on_ok_weaker c.writeln-in-Explained.result
    (λ appends. ends_explained g.E.Write.contents c.args.fault.now c.in-Explained.explanation c.writeln.new.self c.writeln-in-Explained.new.self c.in-Explained.is appends)
    c.writeln-in-Explained.ensures.bytes

pub returns-in_default-clause-line : goal.returns-in_default-clause-line
returns-in_default-clause-line g c =
    on_ok_weaker c.writeln-in_default.result
    (line_says (Appends (g.E.Write.contents c.args.errors.now) (g.E.Write.contents c.writeln-in_default.new.self)) (run_fault_text c.args.fault.now))
    c.writeln-in_default.ensures.bytes
