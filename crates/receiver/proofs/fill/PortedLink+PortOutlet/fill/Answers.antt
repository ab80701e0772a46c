use Rattle.std.proofs.Common.{◌≡◌, ◌∙◌, ap, sym, refl, [], Some}
use Rattle.std.specs.List.{slice_get, slice_set}
use Rattle.std.proofs.lemmas.Option.{slice_get-get_or, slice_get_within}
use Rattle.receiver.specs.Link.{IsPorted, ported}
use Rattle.receiver.specs.Port.{AnswersPort, GivesPort, HasSpacePort, LosesPort, ShowsPort}
use Rattle.receiver.specs.PortLaws.{port_stays}
use Rattle.receiver.proofs.Given.{given_one}
use Rattle.receiver.proofs.Losses.{still_loses}
use Rattle.receiver.proofs.Meets.{met}
use Rattle.receiver.proofs.Fills.{filled_at}
use Rattle.es_base.proofs.Elements.{slice_get-set_same}
use Rattle.receiver.proofs.fill.PortedLink+PortOutlet.fill.Goals as goal

pub invariant_of-self-2 : goal.invariant_of-self-2
invariant_of-self-2 c =
    let s = c.self.inside in
    let opened = s.outlets.items in
    let at = c.args.port.0 in
    let there : slice_get opened at ≡ Some c.in_ok-outlet.outlet.now = slice_get-get_or opened at c.in_ok-outlet.outlet.now (c.in_ok-outlet.ensures.item.3.0) ∙ ap (λ outlet. Some outlet) (sym c.in_ok-outlet.ensures.value) in (
      met s.core opened s.received at c.in_ok-outlet.outlet.now c.fill.new.self there c.fill.ensures.outlet c.self.invariant.0,
      still_loses LosesPort s.core opened s.received at c.in_ok-outlet.outlet.now c.fill.new.self there c.fill.ensures.losses c.self.invariant.1,
    )

pub returns-clause-outlets : goal.returns-clause-outlets
returns-clause-outlets c = λ place.
    let s = c.self.inside in
    let opened = s.outlets.items in
    let at = c.args.port.0 in
    let there : slice_get opened at ≡ Some c.in_ok-outlet.outlet.now = slice_get-get_or opened at c.in_ok-outlet.outlet.now (c.in_ok-outlet.ensures.item.3.0) ∙ ap (λ outlet. Some outlet) (sym c.in_ok-outlet.ensures.value) in
    rw (← c.self.view_is) (given_one ShowsPort HasSpacePort GivesPort AnswersPort port_stays opened at c.in_ok-outlet.outlet.now c.fill.new.self (λ p. []) there c.fill.ensures.outlet (λ p other. refl) place)

pub returns-clause-fill : goal.returns-clause-fill
returns-clause-fill c =
    let s = c.self.inside in
    let opened = s.outlets.items in
    let at = c.args.port.0 in
    let there : slice_get opened at ≡ Some c.in_ok-outlet.outlet.now = slice_get-get_or opened at c.in_ok-outlet.outlet.now (c.in_ok-outlet.ensures.item.3.0) ∙ ap (λ outlet. Some outlet) (sym c.in_ok-outlet.ensures.value) in
    let after : IsPorted ShowsPort (ported s.core (slice_set opened at c.fill.new.self) s.received) =
    met s.core opened s.received at c.in_ok-outlet.outlet.now c.fill.new.self there c.fill.ensures.outlet c.self.invariant.0 in
    let here = slice_get-set_same opened at c.fill.new.self (slice_get_within opened at c.in_ok-outlet.outlet.now there) in
    rw here (filled_at _ c.fill.new.self _ c.fill.result (rw here at (after.shown at)) c.fill.ensures.fill)

pub returns-clause-looked : goal.returns-clause-looked
returns-clause-looked c =
    let opened = c.self.inside.outlets.items in
    let at = c.args.port.0 in
    let there : slice_get opened at ≡ Some c.in_ok-outlet.outlet.now = slice_get-get_or opened at c.in_ok-outlet.outlet.now (c.in_ok-outlet.ensures.item.3.0) ∙ ap (λ outlet. Some outlet) (sym c.in_ok-outlet.ensures.value) in
    let here = slice_get-set_same opened at c.fill.new.self (slice_get_within opened at c.in_ok-outlet.outlet.now there) in
    rw (← c.self.view_is, there, here) c.fill.ensures.looked
