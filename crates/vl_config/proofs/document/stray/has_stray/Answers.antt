use Rattle.std.proofs.Common.{◌∙◌, not, rules, string_bytes, tests}
use Rattle.std.proofs.lemmas.Iterator.Consumers.{YieldsList-from_rest}
use Rattle.std.proofs.lemmas.Iterator.Search.{any_from_yields_List}
use Rattle.std.specs.Map.{keys_of}
use Rattle.vl_config.specs.Keys.{is_own}
use Rattle.vl_config.proofs.Strays.{any_key}
use Rattle.vl_config.proofs.document.stray.has_stray.Goals as goal

pub returns : goal.returns
returns c =
    any_from_yields_List (λ key. not (is_own c.args.level (string_bytes key))) _ _ c.any.result c.any.ensures.ran
    (YieldsList-from_rest (keys_of c.args.table.now.entries) c.keys.ensures.rest) (λ x b q called. search (rules, tests))
    ∙ any_key (λ key. not (is_own c.args.level key)) c.args.table.now.entries
