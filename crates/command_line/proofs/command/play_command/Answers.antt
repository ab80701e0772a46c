use Rattle.std.proofs.Common.{◌≡◌, ◌∙◌, false, ap, codes}
use Rattle.std.proofs.lemmas.Result.{IfOk-weaker}
use Rattle.clap.specs.Words.{AddsArg, App, Rule, app_of, rule_of, with_rule}
use Rattle.clap.specs.declared.builder.arg.Arg.{Arg}
use Rattle.clap.specs.declared.builder.command.Command.{Command}
use Rattle.command_line.specs.Command.{file_option, flag_option, time_option}
use Rattle.command_line.proofs.command.play_command.Goals as goal

-- a command that is known, with one more argument of a known rule
with_one : (old new : Command) (arg : Arg) (app : App) (rule : Rule) → AddsArg old arg new → arg.global ≡ false
    → app_of old ≡ app → rule_of arg ≡ rule → app_of new ≡ with_rule app rule
with_one old new arg app rule adds local is has = adds.shape local ∙ ap (λ (a : App). with_rule a (rule_of arg)) is ∙ ap (with_rule app) has

pub returns : goal.returns
returns c =
    let config = with_one _ _ _ _ (file_option (codes "config")) c.in_ok-arg.ensures c.file_option.ensures.local c.bare_command.ensures c.file_option.ensures.rule in
    let a = with_one _ _ _ _ (file_option (codes "a")) c.in_ok-arg-2.ensures c.file_option-2.ensures.local config c.file_option-2.ensures.rule in
    let b = with_one _ _ _ _ (file_option (codes "b")) c.in_ok-arg-3.ensures c.file_option-3.ensures.local a c.file_option-3.ensures.rule in
    let at = with_one _ _ _ _ (time_option (codes "at")) c.in_ok-arg-4.ensures c.time_option.ensures.local b c.time_option.ensures.rule in
    let threads = with_one _ _ _ _ (flag_option (codes "threads")) c.in_ok-arg-5.ensures c.flag_option.ensures.local at c.flag_option.ensures.rule in
    IfOk-weaker c.arg-6.result _ _
    (λ command adds. with_one _ _ _ _ (flag_option (codes "explain")) adds c.flag_option-2.ensures.local threads c.flag_option-2.ensures.rule)
    c.arg-6.ensures
