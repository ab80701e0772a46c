use Rattle.std.proofs.Common.{rules, ◌∙◌, ap}
use Rattle.std.specs.List.{fold}
use Rattle.std.specs.Str.Lines.{lines}
use Rattle.std.proofs.lemmas.Iterator.Consumers.{fold_from_yields_List}
use Rattle.std.proofs.lemmas.Iterator.Splits.{YieldsList-from_lines}
use Rattle.vl_config.specs.Line.{step}
use Rattle.vl_config.specs.declared.document.line.Seen.{Seen}
use Rattle.vl_config.proofs.document.line.seen_of.Goals as goal

pub returns : goal.returns
returns c =
    fold_from_yields_List _ (step c.args.sought) c.start.result c.fold.result c.fold.ensures.ran
    (YieldsList-from_lines c.args.text.now c.lines.ensures.rest) (λ a x b q called. search (rules, called))
    ∙ ap (λ (seen : Seen). fold (step c.args.sought) seen (lines c.args.text.now)) c.start.ensures
