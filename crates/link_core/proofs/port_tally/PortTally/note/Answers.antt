use Rattle.std.proofs.Common.{◌≡◌, ◌∙◌, ap, sym, refl}
use Rattle.std.proofs.lemmas.Bool.{eq-eqb}
use Rattle.link_core.specs.Counted.{port_no}
use Rattle.link_core.proofs.Ports.{not_refused}
use Rattle.link_core.proofs.port_tally.PortTally.note.Goals as goal

pub bounds-self-place : goal.bounds-self-place
bounds-self-place c =
    let at = c.in-Some.port in
    c.requires at (c.in-Some.ensures.some at ∙ eq-eqb at.0 at.0 refl)

pub bounds-self-place-in-Some : goal.bounds-self-place-in-Some
bounds-self-place-in-Some c =
    let at = c.in-Some.port in
    c.requires at (c.in-Some.ensures.some at ∙ eq-eqb at.0 at.0 refl)

pub returns-in-Some-clause-overflowed : goal.returns-in-Some-clause-overflowed
returns-in-Some-clause-overflowed c = λ port low.
    let at = c.in-Some.port in
    rw ((not_refused c.args.verdict at (port_no port) (c.in-Some.ensures.some at ∙ eq-eqb at.0 at.0 refl)).0) refl

pub returns-in-Some-clause-too_long : goal.returns-in-Some-clause-too_long
returns-in-Some-clause-too_long c = λ port low.
    let at = c.in-Some.port in
    rw ((not_refused c.args.verdict at (port_no port) (c.in-Some.ensures.some at ∙ eq-eqb at.0 at.0 refl)).1) refl

pub returns-in-Some-clause-fragmented : goal.returns-in-Some-clause-fragmented
returns-in-Some-clause-fragmented c = λ port low.
    let at = c.in-Some.port in
    rw ((not_refused c.args.verdict at (port_no port) (c.in-Some.ensures.some at ∙ eq-eqb at.0 at.0 refl)).2) refl
