use Rattle.std.proofs.Common.{◌≡◌, ◌∙◌, List, ℕ, sym, ap, is_some, true, Some, option_map, rules}
use Rattle.std.specs.Borrow.{Bor}
use Rattle.std.proofs.lemmas.Result.{IfOk-weaker}
use Rattle.clap.specs.Words.{found_of}
use Rattle.clap.proofs.CallerLemmas.{some_of_text}
use Rattle.clap.proofs.WalkLemmas.{first_value-rows}
use Rattle.command_line.proofs.line.value_of.Goals as goal

pub unwrap-value-requires : goal.unwrap-value-requires
unwrap-value-requires c =
    let text = c.get_str.ensures ∙ first_value-rows (found_of c.args.matches.now) c.args.name.now in
    let has : is_some c.get_str.result ≡ true = some_of_text _ c.get_str.result _ text c.requires in
    search (rules, has)

pub returns : goal.returns
returns c =
    let text = sym (first_value-rows (found_of c.args.matches.now) c.args.name.now) ∙ sym c.get_str.ensures
    ∙ ap (option_map (λ (s : Bor (List ℕ)). s.now)) c.unwrap-value.ensures in
    IfOk-weaker c.from_str.result _ _ (λ t same. text ∙ ap Some (sym same)) c.from_str.ensures.ok
