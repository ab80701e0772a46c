use Rattle.std.proofs.Common.{◌≡◌, refl, [], Some}
use Rattle.std.specs.List.{slice_get, slice_set}
use Rattle.std.proofs.lemmas.Option.{slice_get-get_or, slice_get_within}
use Rattle.receiver.specs.Link.{IsPorted, TellsLosses, losses_of, lost_since_of, ported}
use Rattle.receiver.specs.Port.{AnswersPort, GivesPort, HasSpacePort, LosesPort, ShowsPort}
use Rattle.receiver.specs.PortLaws.{port_stays}
use Rattle.receiver.proofs.Given.{given_one}
use Rattle.receiver.proofs.Losses.{still_loses}
use Rattle.receiver.proofs.Meets.{lost, met, put}
use Rattle.es_base.proofs.Elements.{slice_get-set_other, slice_get-set_same}
use Rattle.receiver.proofs.meetings.PortedLink+PortOutlet.meet_taker.Goals as goal

pub invariant_of-self : goal.invariant_of-self
invariant_of-self c =
    let s = c.self.inside in
    let opened = s.outlets.items in
    let at = c.args.port.0 in
    let was : slice_get opened at ≡ Some c.requires.0 = rw (← c.self.view_is) at c.requires.1 in
    let there : slice_get opened at ≡ Some c.index_mut.result.now = rw c.index_mut.ensures.value (slice_get-get_or opened at _ (slice_get_within opened at c.requires.0 was)) in (
      met s.core opened s.received at c.index_mut.result.now c.meet_taker.new.self there c.meet_taker.ensures.outlet c.self.invariant.0,
      still_loses LosesPort s.core opened s.received at c.index_mut.result.now c.meet_taker.new.self there c.meet_taker.ensures.losses c.self.invariant.1,
    )

pub returns-clause-outlets : goal.returns-clause-outlets
returns-clause-outlets c = λ place.
    let s = c.self.inside in
    let opened = s.outlets.items in
    let at = c.args.port.0 in
    let was : slice_get opened at ≡ Some c.requires.0 = rw (← c.self.view_is) at c.requires.1 in
    let there : slice_get opened at ≡ Some c.index_mut.result.now = rw c.index_mut.ensures.value (slice_get-get_or opened at _ (slice_get_within opened at c.requires.0 was)) in
    rw (← c.self.view_is) (given_one ShowsPort HasSpacePort GivesPort AnswersPort port_stays opened at c.index_mut.result.now c.meet_taker.new.self (λ p. []) there c.meet_taker.ensures.outlet (λ p other. refl) place)

pub returns-clause-others : goal.returns-clause-others
returns-clause-others c = λ place other.
    rw (← c.self.view_is) (slice_get-set_other c.self.inside.outlets.items c.args.port.0 place c.meet_taker.new.self other)

pub returns-clause-met : goal.returns-clause-met
returns-clause-met c =
    let s = c.self.inside in
    let opened = s.outlets.items in
    let at = c.args.port.0 in
    let was : slice_get opened at ≡ Some c.requires.0 = rw (← c.self.view_is) at c.requires.1 in
    let there : slice_get opened at ≡ Some c.index_mut.result.now = rw c.index_mut.ensures.value (slice_get-get_or opened at _ (slice_get_within opened at c.requires.0 was)) in
    (c.meet_taker.new.self, slice_get-set_same opened at c.meet_taker.new.self (slice_get_within opened at c.requires.0 was), c.meet_taker.ensures.met)

pub returns-clause-put : goal.returns-clause-put
returns-clause-put c =
    let s = c.self.inside in
    let opened = s.outlets.items in
    let at = c.args.port.0 in
    let was : slice_get opened at ≡ Some c.requires.0 = rw (← c.self.view_is) at c.requires.1 in
    let there : slice_get opened at ≡ Some c.index_mut.result.now = rw c.index_mut.ensures.value (slice_get-get_or opened at _ (slice_get_within opened at c.requires.0 was)) in
    let after : IsPorted ShowsPort (ported s.core (slice_set opened at c.meet_taker.new.self) s.received) = met s.core opened s.received at c.index_mut.result.now c.meet_taker.new.self there c.meet_taker.ensures.outlet c.self.invariant.0 in
    let here = slice_get-set_same opened at c.meet_taker.new.self (slice_get_within opened at c.requires.0 was) in
    rw (← c.self.view_is) (put _ c.meet_taker.new.self c.meet_taker.new.taker _ (rw here at (after.shown at)) c.meet_taker.ensures.met)

pub returns-clause-losses : goal.returns-clause-losses
returns-clause-losses c =
    let s = c.self.inside in
    let opened = s.outlets.items in
    let at = c.args.port.0 in
    let was : slice_get opened at ≡ Some c.requires.0 = rw (← c.self.view_is) at c.requires.1 in
    let there : slice_get opened at ≡ Some c.index_mut.result.now = rw c.index_mut.ensures.value (slice_get-get_or opened at _ (slice_get_within opened at c.requires.0 was)) in
    let link = ported s.core (slice_set opened at c.meet_taker.new.self) s.received in
    let after : TellsLosses LosesPort link = still_loses LosesPort s.core opened s.received at c.index_mut.result.now c.meet_taker.new.self there c.meet_taker.ensures.losses c.self.invariant.1 in
    let here = slice_get-set_same opened at c.meet_taker.new.self (slice_get_within opened at c.requires.0 was) in
    rw (← c.self.view_is) (lost c.meet_taker.new.self c.meet_taker.new.taker (losses_of link c.args.port) (lost_since_of link c.args.port) (rw here at (after at)) c.meet_taker.ensures.met)
