-- A link after a frame that was kept away: nothing was published or queued.
use Rattle.std.proofs.Common.{◌≡◌, ap, refl, true, false, List, None, Some}
use Rattle.es_base.specs.declared.event.Arrival.{Arrival}
use Rattle.es_base.specs.declared.event.Event.{Event}
use Rattle.es_base.specs.declared.place.PortNo.{PortNo}
use Rattle.es_base.specs.declared.verdict.Verdict.{Verdict}
use Rattle.link_rules.specs.Deliveries.{number_delivered}
use Rattle.link_rules.specs.Outcome as way
use Rattle.es_base.specs.Past.{event_of}
use Rattle.link_rules.specs.Run.{settled, verdict_of}
use Rattle.es_base.specs.Settings.{Settings}
use Rattle.link_core.specs.declared.rules_state.RulesState.{RulesState as Kept}
use Rattle.link_core.specs.Counted.{port_no}
use Rattle.link_core.specs.Kept.{Keeps}
use Rattle.link_core.specs.Seen.{kept_away}
use Rattle.link_core.specs.Told.{tells_delivered}
use Rattle.link_core.proofs.Away.{away_decided, away_delivers_nothing, away_not_forwarded}
use Rattle.link_core.proofs.Keeping.{keeps_away}
use Rattle.link_receiver.specs.declared.outlet.Outlet.{Outlet}
use Rattle.link_receiver.specs.Kept.{brings_to}
use Rattle.link_receiver.proofs.Kept.{IsNext}

brings_nothing : (outcome : way.Outcome) (verdict : Verdict) (port : PortNo) → kept_away outcome ≡ Some verdict → brings_to outcome port ≡ false
brings_nothing way.out_of_sequence verdict port away = refl
brings_nothing way.redundant verdict port away = refl
brings_nothing (way.refused other) verdict port away = cc
brings_nothing (way.brings payload) verdict port away = cc

pub turned : (o : Settings) (past : List Event) (a : Arrival) (verdict : Verdict) (outlets : List Outlet) (kept : Kept) → kept_away (way.outcome o past a) ≡ Some verdict
    → ((port : PortNo) → tells_delivered verdict port ≡ false) → Keeps kept o past → IsNext o past (event_of a true verdict) outlets outlets kept
turned o past a verdict outlets kept away nowhere keeps =
    let outcome = way.outcome o past a in
    let becomes : verdict ≡ verdict_of o past a true = ap (λ d. settled d true) (away_decided outcome verdict (number_delivered o past) away) in
    record {
      verdict = becomes;
      may = tt;
      keeps = keeps_away o past (event_of a true verdict) kept becomes keeps (away_not_forwarded o past a verdict away) (λ port. nowhere (port_no port));
      delivery = None;
      publishes = (refl, refl);
      within = tt;
      delivers = λ port. away_delivers_nothing outcome verdict true a.time port (number_delivered o past port) away;
      brought = λ port queuing. brings_nothing outcome verdict (port_no port) away;
    }
