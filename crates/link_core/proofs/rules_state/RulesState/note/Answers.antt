use Rattle.std.proofs.Common.{◌∙◌, refl}
use Rattle.std.proofs.lemmas.Bool.{eq-eqb}
use Rattle.link_core.proofs.rules_state.RulesState.note.Goals as goal

pub bounds-self-place : goal.bounds-self-place
bounds-self-place c =
    let port = c.in-Some.port in
    c.requires port (c.in-Some.ensures.some port ∙ eq-eqb port.0 port.0 refl)

pub bounds-self-place-in-Some : goal.bounds-self-place-in-Some
bounds-self-place-in-Some c =
    let port = c.in-Some.port in
    c.requires port (c.in-Some.ensures.some port ∙ eq-eqb port.0 port.0 refl)
