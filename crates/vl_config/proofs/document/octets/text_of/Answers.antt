use Rattle.std.proofs.Common.{◌≡◌, ap, refl, true, false, Some, List, ℕ, ⊎_elim}
use Rattle.std.specs.Str.{is_utf8}
use Rattle.std.proofs.lemmas.Bool.{cases_Bool}
use Rattle.std.proofs.lemmas.Str.{IsUtf8-from_is_utf8, is_utf8-from_IsUtf8}
use Rattle.vl_config.proofs.document.octets.text_of.Goals as goal

pub returns-in-Ok : goal.returns-in-Ok
returns-in-Ok c =
    let cases = c.in-Ok.ensures.cases in
    let is : is_utf8 c.args.octets.now ≡ true = is_utf8-from_IsUtf8 c.args.octets.now cases.1 in
    rw is (ap (λ (l : List ℕ). Some l) cases.0)

pub returns-in-Err : goal.returns-in-Err
returns-in-Err c =
    let cases = c.in-Err.ensures.cases in
    ⊎_elim
    (λ (is : is_utf8 c.args.octets.now ≡ true). absurd (cases.0 (IsUtf8-from_is_utf8 c.args.octets.now is)))
    (λ (is : is_utf8 c.args.octets.now ≡ false). rw is refl)
    (cases_Bool (is_utf8 c.args.octets.now))
