use Rattle.std.proofs.Common.{◌∙◌}
use Rattle.clap.specs.Words.{found_of}
use Rattle.clap.proofs.WalkLemmas.{one_text-rows}
use Rattle.command_line.proofs.line.flag_of.Goals as goal

pub returns : goal.returns
returns c =
    let read = one_text-rows (found_of c.args.matches.now) c.args.name.now in
    (λ is. c.get_flag.ensures.value (read ∙ is), λ is. c.get_flag.ensures.other (read ∙ is), λ is. c.get_flag.ensures.none (read ∙ is))
