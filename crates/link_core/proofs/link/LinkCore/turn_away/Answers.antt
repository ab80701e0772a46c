use Rattle.std.proofs.Common.{◌≡◌, ◌∙◌, ap, Some, true, false, sym}
use Rattle.es_base.specs.declared.event.Event.{Event}
use Rattle.es_base.specs.Past.{arrived, event_of}
use Rattle.link_rules.specs.Deliveries.{number_delivered}
use Rattle.link_rules.specs.Redundancy.{is_forwarded}
use Rattle.link_rules.specs.Run.{settled}
use Rattle.link_core.specs.Counted.{port_no}
use Rattle.link_core.specs.Link.{outcome_after, verdict_after}
use Rattle.link_core.specs.Seen.{kept_away}
use Rattle.link_core.proofs.Away.{away_decided, away_not_forwarded}
use Rattle.link_core.proofs.Keeping.{keeps_away, tells_away}
use Rattle.link_core.proofs.Ports.{ports_away}
use Rattle.link_core.proofs.link.LinkCore.turn_away.Goals as goal

pub invariant_of-self : goal.invariant_of-self
invariant_of-self c =
    let s = c.self.inside in
    let o = s.settings in
    let past = s.past.events in
    let kept = c.self.invariant in
    let frame = c.args.frame.now in
    let a = arrived c.args.net c.args.now frame.whole.now in
    let verdict = c.in_ok-verdict.verdict in
    let e : Event = event_of a true verdict in
    let away : kept_away (outcome_after o past a) ≡ Some verdict = sym (c.kept_away.ensures.value past c.args.net kept.keeps (rw (← c.self.view_is) at c.requires.passed)) ∙ c.in_ok-verdict.was in
    let becomes : verdict ≡ verdict_after o past a true = ap (λ d. settled d true) (away_decided (outcome_after o past a) verdict (number_delivered o past) away) in
    let dropped : is_forwarded o past a ≡ false = away_not_forwarded o past a verdict away in
    rw (c.and_event-self-inside.ensures, c.replace-past.ensures.value) (record {
      run = (becomes, tt, kept.run);
      frames = ((record { short = frame.short; long = frame.long; carries = frame.carries }), (rw (← c.self.view_is) at c.requires.link), kept.frames);
      keeps = keeps_away o past e s.kept becomes kept.keeps dropped (λ port. c.in_ok-verdict.ensures.nowhere (port_no port));
      tells = tells_away o past e s.kept kept.tells dropped;
      counted = ports_away s.ports past e (outcome_after o past a) kept.counted away;
      few_ports = kept.few_ports;
    })
