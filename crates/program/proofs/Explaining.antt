-- What stands last on the standard error, by the fault.
use Rattle.std.proofs.Common.{◌≡◌, ◌++◌, List, ℕ, Option, Some, None, append_assoc, codes, refl, subst, sym}
use Rattle.std.specs.Prelude.{IfSome, option_map}
use Rattle.std.specs.Fmt.{◌++?◌}
use Rattle.std.specs.Io.KnownBytes.{Appends}
use Rattle.program.specs.declared.explanation.Explanation.{Explanation}
use Rattle.program.specs.declared.fault.RunFault.{RunFault}
use Rattle.program.specs.declared.fault.RunFault.TheVariants.{Explained}
use Rattle.program.specs.Explanation.{explanation_text}
use Rattle.program.specs.Fault.{EndsExplained}

pub ends_explained : {E : Type 0} (contents : E → Option (List ℕ)) (fault : RunFault) (explanation : Explanation) (before now : E) → fault ≡ Explained explanation
    → Appends (contents before) (contents now) (codes "afdx_play: " ++ explanation_text explanation ++ codes "\n") → EndsExplained contents fault now
ends_explained contents fault explanation before now is appends = rw is (before, appends)

-- what was written is the line, where its text is known
pub line_says : (Says : List ℕ → Type 0) (text : Option (List ℕ)) → IfSome (Some (codes "afdx_play: ") ++? (text ++? Some (codes "\n"))) Says
    → IfSome (option_map (λ text. codes "afdx_play: " ++ text ++ codes "\n") text) Says
line_says Says None says = tt
line_says Says (Some text) says = subst Says (sym (append_assoc (codes "afdx_play: ") text (codes "\n"))) says
