-- A link after a frame that was kept away: nobody was asked, and nothing was lent.
use Rattle.std.proofs.Common.{◌≡◌, ap, refl, sym, Bool, true, List, None, Some}
use Rattle.es_base.specs.declared.event.Arrival.{Arrival}
use Rattle.es_base.specs.declared.event.Message.{Message}
use Rattle.es_base.specs.declared.port.PortKind.{PortKind}
use Rattle.es_base.specs.declared.verdict.Verdict.{Verdict}
use Rattle.link_rules.specs.Deliveries.{number_delivered}
use Rattle.es_base.specs.Frame.{IsFrame, link_number_of}
use Rattle.link_rules.specs.Outcome as way
use Rattle.es_base.specs.Port.{Port}
use Rattle.link_rules.specs.Run.{settled}
use Rattle.link_core.specs.Link.{Link, outcome_after, with_event}
use Rattle.link_core.specs.Seen.{kept_away}
use Rattle.receiver.specs.Link.{OverflowsIfRefused, Ported}
use Rattle.link_core.proofs.Away.{away_decided, away_delivers_nothing}
use Rattle.receiver.proofs.Frames.{IsAsked, IsLent}

pub nothing_lent : (old core : Link) (a : Arrival) (verdict : Verdict) → kept_away (outcome_after old.settings old.past a) ≡ Some verdict → core ≡ with_event old a true verdict
    → IsFrame a.frame → link_number_of a.frame ≡ old.settings.vl.0 → IsLent old core a true verdict None
nothing_lent old core a verdict away taken frame number =
    let o = old.settings in
    let outcome = outcome_after o old.past a in
    record {
      core = taken;
      becomes = ap (λ d. settled d true) (away_decided outcome verdict (number_delivered o old.past) away);
      message = λ port. away_delivers_nothing outcome verdict true a.time port (number_delivered o old.past port) away;
      lent = tt;
      frame = frame;
      number = number;
    }

brings_nothing : (payload : way.Payload) (verdict : Verdict) → kept_away (way.brings payload) ≡ Some verdict → ⊥
brings_nothing payload verdict away = cc

-- it brings no message that may overflow
pub none_refused : {P : Type 0} (refusing : P → P → Type 0) (old new : Ported P) (a : Arrival) (verdict reply : Verdict) → kept_away (outcome_after old.core.settings old.core.past a) ≡ Some verdict
    → OverflowsIfRefused refusing old new a reply
none_refused refusing old new a verdict reply away = λ payload brings over. absurd (brings_nothing payload verdict (rw brings at away))

module _ {P : Type 0} (shows : Port → P → List Message → Type 0) (has_space : P → Type 0) (gives : P → P → List Message → Type 0) (answers : PortKind → List Message → Bool → Type 0) where
  pub nobody_asked : (old : Ported P) (a : Arrival) (verdict : Verdict) → kept_away (outcome_after old.core.settings old.core.past a) ≡ Some verdict
      → IsAsked shows has_space gives answers old old.outlets a true
  nobody_asked old a verdict away =
      rw (sym (away_decided (outcome_after old.core.settings old.core.past a) verdict (number_delivered old.core.settings old.core.past) away)) (refl, refl)
