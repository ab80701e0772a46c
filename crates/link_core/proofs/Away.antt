-- A frame that is kept away, and one that isn't.
use Rattle.std.proofs.Common.{◌≡◌, ◌∙◌, sym, ℕ, Bool, true, false, not, List, [], None, Some, Result, Ok, Err, refl, if◌then◌else◌}
use Rattle.std.proofs.lemmas.Option.{same_Some}
use Rattle.es_base.specs.declared.event.Arrival.{Arrival}
use Rattle.es_base.specs.declared.event.Event.{Event}
use Rattle.es_base.specs.declared.place.PortNo.{PortNo}
use Rattle.es_base.specs.declared.verdict.Decision.TheVariants.{Final}
use Rattle.es_base.specs.declared.verdict.Verdict.{Verdict}
use Rattle.es_base.specs.declared.verdict.Verdict.TheVariants as verdicts
use Rattle.link_rules.specs.Integrity.{passes}
use Rattle.link_rules.specs.Redundancy.{forwarded, is_forwarded, is_redundant}
use Rattle.link_rules.specs.Reassembly.{groups_in}
use Rattle.link_rules.specs.Deliveries.{delivered}
use Rattle.link_rules.specs.Run.{decided}
use Rattle.es_base.specs.Settings.{Settings}
use Rattle.link_rules.specs.Outcome as way
use Rattle.link_core.specs.Seen.{kept_away}
use Rattle.link_core.proofs.Forwarded.{away_counts, outcome_counts}

-- ---- one that is kept away

pub away_decided : (outcome : way.Outcome) (verdict : Verdict) (numbers : PortNo → ℕ) → kept_away outcome ≡ Some verdict → Final verdict ≡ decided outcome numbers
away_decided way.out_of_sequence verdict numbers away = rw (sym (same_Some _ _ away)) refl
away_decided way.redundant verdict numbers away = rw (sym (same_Some _ _ away)) refl
away_decided (way.refused other) verdict numbers away = cc
away_decided (way.brings payload) verdict numbers away = cc

pub away_not_forwarded : (o : Settings) (past : List Event) (a : Arrival) (verdict : Verdict) → kept_away (way.outcome o past a) ≡ Some verdict → is_forwarded o past a ≡ false
away_not_forwarded o past a verdict away = sym (outcome_counts o past a) ∙ away_counts (way.outcome o past a) verdict away

pub away_delivers_nothing : (outcome : way.Outcome) (verdict : Verdict) (room : Bool) (time : ℕ) (port : PortNo) (before : ℕ) → kept_away outcome ≡ Some verdict → delivered outcome room time port before ≡ []
away_delivers_nothing way.out_of_sequence verdict room time port before away = refl
away_delivers_nothing way.redundant verdict room time port before away = refl
away_delivers_nothing (way.refused other) verdict room time port before away = cc
away_delivers_nothing (way.brings payload) verdict room time port before away = cc

-- ---- by the checks

brought_not_away : (payload : Result way.Payload Verdict) → None ≡ kept_away (way.brought payload)
brought_not_away (Ok payload) = refl
brought_not_away (Err verdict) = refl

module _ (o : Settings) (past : List Event) (a : Arrival) where
  pub out_of_sequence_away : passes o past a ≡ false → Some verdicts.OutOfSequence ≡ kept_away (way.outcome o past a)
  unfolding way.outcome
  out_of_sequence_away failed = rw failed refl

  pub redundant_away : passes o past a ≡ true → is_redundant o (forwarded o past) a ≡ true → Some verdicts.Redundant ≡ kept_away (way.outcome o past a)
  unfolding way.outcome
  redundant_away passed copy = rw (passed, copy) refl

  pub not_away : passes o past a ≡ true → is_redundant o (forwarded o past) a ≡ false → None ≡ kept_away (way.outcome o past a)
  unfolding way.outcome
  not_away passed first = rw (passed, first) (brought_not_away (way.frame_payload o (groups_in o past) a))

-- ---- one that is forwarded

by_steps : (passing is_copy : Bool) (payload : Result way.Payload Verdict)
    → kept_away (if not passing then way.out_of_sequence else if is_copy then way.redundant else way.brought payload) ≡ None
    → (if not passing then way.out_of_sequence else if is_copy then way.redundant else way.brought payload) ≡ way.brought payload
by_steps false is_copy payload away = cc
by_steps true true payload away = cc
by_steps true false payload away = refl

pub forwarded_is : (o : Settings) (past : List Event) (a : Arrival) → kept_away (way.outcome o past a) ≡ None → way.outcome o past a ≡ way.brought (way.frame_payload o (groups_in o past) a)
unfolding way.outcome
forwarded_is o past a away = by_steps (passes o past a) (is_redundant o (forwarded o past) a) (way.frame_payload o (groups_in o past) a) away
