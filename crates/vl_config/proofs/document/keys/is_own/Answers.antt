use Rattle.std.proofs.Common.{◌≡◌, ◌∙◌, ap, sym, true, false, refl, rules, tests}
use Rattle.std.specs.List.{list_any}
use Rattle.std.specs.Str.{bytes_eq}
use Rattle.std.proofs.lemmas.Iterator.{YieldsList-from_slice}
use Rattle.std.proofs.lemmas.Iterator.Search.{any_from_yields_List}
use Rattle.vl_config.specs.Fault.{key_name}
use Rattle.vl_config.specs.Keys.{read_keys}
use Rattle.vl_config.proofs.Strays.{any_mapped, of_two_kinds}
use Rattle.vl_config.proofs.document.keys.is_own.Goals as goal

pub returns-then-any : goal.returns-then-any
returns-then-any c =
    let name = c.args.name.now in
    let read : c.any.result ≡ list_any (λ key. bytes_eq name (key_name key)) c.read_keys.result.now =
    any_from_yields_List (λ key. bytes_eq name (key_name key)) _ _ c.any.result c.any.ensures.ran
    (YieldsList-from_slice c.read_keys.result.now c.iter.ensures.rest) (λ x b q called. search (rules, tests)) in
    let yes : list_any (λ key. bytes_eq name (key_name key)) (read_keys c.args.level) ≡ true = rw (← c.read_keys.ensures) (sym read ∙ c.if-any.true) in
    c.if-any.true ∙ sym (of_two_kinds c.args.level name ∙ rw yes refl)

pub returns-else-any : goal.returns-else-any
returns-else-any c =
    let name = c.args.name.now in
    let read : c.any.result ≡ list_any (λ key. bytes_eq name (key_name key)) c.read_keys.result.now =
    any_from_yields_List (λ key. bytes_eq name (key_name key)) _ _ c.any.result c.any.ensures.ran
    (YieldsList-from_slice c.read_keys.result.now c.iter.ensures.rest) (λ x b q called. search (rules, tests)) in
    let no : list_any (λ key. bytes_eq name (key_name key)) (read_keys c.args.level) ≡ false = rw (← c.read_keys.ensures) (sym read ∙ c.if-any.false) in
    any_from_yields_List (λ key. bytes_eq name key.now) _ _ c.any-else-any.result c.any-else-any.ensures.ran
    (YieldsList-from_slice c.tool_keys.result.now c.iter-else-any.ensures.rest) (λ x b q called. search (rules, tests))
    ∙ sym (any_mapped (bytes_eq name) (λ key. key.now) c.tool_keys.result.now)
    ∙ ap (list_any (bytes_eq name)) c.tool_keys.ensures
    ∙ sym (of_two_kinds c.args.level name ∙ rw no refl)
