use Rattle.std.proofs.Common.{◌≡◌, ◌∙◌, ◌++◌, ap, Some, refl, reverse, sym}
use Rattle.link_rules.specs.Deliveries.{number_delivered}
use Rattle.es_base.specs.Past.{arrived}
use Rattle.link_core.specs.Link.{decision_after, outcome_after}
use Rattle.link_core.specs.Seen.{kept_away}
use Rattle.link_core.proofs.Away.{away_decided}
use Rattle.link_receiver.proofs.link.LinkState.decide.Goals as goal

pub returns-in-Some : goal.returns-in-Some
returns-in-Some c =
    let s = c.self.inside in
    let past = reverse s.history.items ++ s.before.events in
    let outcome = outcome_after s.settings past (arrived c.args.net c.args.now c.args.frame.now.whole.now) in
    let passed = c.check-passed.ensures s.settings past (arrived c.args.net c.args.now c.args.frame.now.whole.now) c.self.invariant.all.held refl (sym c.args.frame.now.sequence_number_is) in
    let away : kept_away outcome ≡ Some c.in-Some.verdict = sym (c.kept_away.ensures.value past c.args.net c.self.invariant.all.keeps passed) ∙ c.in-Some.is in
    rw (← c.self.view_is) (away_decided outcome c.in-Some.verdict (number_delivered s.settings past) away)

pub returns-in-None : goal.returns-in-None
returns-in-None c =
    let s = c.self.inside in
    let past = reverse s.history.items ++ s.before.events in
    let keeps = c.self.invariant.all.keeps in
    let passed = c.check-passed.ensures s.settings past (arrived c.args.net c.args.now c.args.frame.now.whole.now) c.self.invariant.all.held refl (sym c.args.frame.now.sequence_number_is) in
    let step = c.look.ensures.step past keeps (sym (c.kept_away.ensures.value past c.args.net keeps passed) ∙ c.in-None.is) in
    rw (← c.self.view_is) (c.decision.ensures ∙ step.decided ∙ ap (decision_after s.settings past) c.look.ensures.received)
