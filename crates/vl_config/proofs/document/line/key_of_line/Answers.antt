use Rattle.std.proofs.Common.{◌≡◌, length, not, rules, tests, unwrap_or}
use Rattle.std.proofs.lemmas.Iterator.{YieldsList-from_slice}
use Rattle.std.proofs.lemmas.Iterator.Search.{position_from_yields_List}
use Rattle.std.specs.List.{position}
use Rattle.vl_config.specs.Line.{is_of_key}
use Rattle.vl_config.proofs.Strays.{word_before}
use Rattle.vl_config.proofs.document.line.key_of_line.Goals as goal

pub returns : goal.returns
returns c =
    let line = c.bare-line.result.now in
    let place : c.position-end.result ≡ position (λ octet. not (is_of_key octet)) line =
    position_from_yields_List (λ octet. not (is_of_key octet)) _ _ c.position-end.result c.position-end.ensures.ran
    (YieldsList-from_slice line c.iter.ensures.rest) (λ x b q called. search (rules, tests)) in
    let end : c.unwrap_or.result ≡ unwrap_or c.position-end.result (length line) = search rules in
    rw (end, place, ← c.bare-line.ensures) (word_before is_of_key line)
