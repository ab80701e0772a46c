use Rattle.std.proofs.Common.{◌≡◌, ◌∙◌, ap, sym}
use Rattle.link_rules.specs.Deliveries.{number_delivered}
use Rattle.link_rules.specs.Outcome.{Outcome, brought, frame_payload}
use Rattle.es_base.specs.Past.{arrived}
use Rattle.link_rules.specs.Reassembly.{groups_in}
use Rattle.link_rules.specs.Run.{decided}
use Rattle.link_core.specs.Link.{outcome_after}
use Rattle.link_core.proofs.Away.{forwarded_is}
use Rattle.link_core.proofs.Ways.{decided_of_payload, decided_of_verdict, length_in, no_length_in}
use Rattle.link_core.proofs.rules_state.RulesState.look.Goals as goal
use Rattle.link_core.proofs.rules_state.RulesState.look.Goals.{in-Ok, in-Err}

pub returns-clause-step : goal.returns-clause-step
returns-clause-step c = λ past keeps away.
    let o = c.args.settings.now in
    let a = arrived c.args.net c.args.now c.args.frame.now.whole.now in
    let way = c.payload-payload.ensures in
    let read = frame_payload o (groups_in o past) a in
    let is : outcome_after o past a ≡ brought read = forwarded_is o past a away in
    let sees = way.value past c.args.net keeps in
    record {
      forwarded = away;
      decided = elim c.match-payload.branch [
        | in-Ok w ↦ rw w.decision-is (w.decision_at.ensures past keeps ∙ decided_of_payload w.in-Ok.payload read (number_delivered o past) (rw w.in-Ok.is at sees)) ∙ ap (λ (outcome : Outcome). decided outcome (number_delivered o past)) (sym is)
        | in-Err w ↦ rw w.decision-is (decided_of_verdict w.in-Err.verdict read (number_delivered o past) (rw w.in-Err.is at sees)) ∙ ap (λ (outcome : Outcome). decided outcome (number_delivered o past)) (sym is)
      ];
      long = rw is (elim c.match-payload.branch [
        | in-Ok w ↦ rw w.decision-is (length_in o.ports w.in-Ok.payload read (rw w.in-Ok.is at sees) (rw w.in-Ok.is at way.port))
        | in-Err w ↦ rw w.decision-is (no_length_in w.in-Err.verdict read 0 (rw w.in-Err.is at sees))
      ]);
      packet = way.packet;
    }
