use Rattle.std.proofs.Common.{◌≡◌, ◌∙◌, true, false, refl, sym}
use Rattle.es_base.specs.Past.{arrived}
use Rattle.link_rules.specs.Redundancy.{forwarded, is_first_copy, is_redundant}
use Rattle.link_core.proofs.Away.{not_away, out_of_sequence_away, redundant_away}
use Rattle.link_core.proofs.rules_state.RulesState.kept_away.Goals as goal
use Rattle.link_core.proofs.rules_state.RulesState.kept_away.Goals.{else-managed-via-then-managed+else-not-would_forward, else-managed-via-else-managed}

pub returns-then-not-passed-clause-value : goal.returns-then-not-passed-clause-value
returns-then-not-passed-clause-value c = λ past net keeps passed.
    out_of_sequence_away c.args.settings.now past (arrived net c.args.now c.args.frame.now.whole.now) (sym passed ∙ c.if-not-passed.true)

pub returns-then-not-would_forward-clause-value : goal.returns-then-not-would_forward-clause-value
returns-then-not-would_forward-clause-value c = λ past net keeps passed.
    let o = c.args.settings.now in
    let frame = c.args.frame.now in
    let a = arrived net c.args.now frame.whole.now in
    let managed : o.redundancy ≡ true = sym c.redundancy-managed.ensures ∙ c.if-managed.true in
    let copy : is_first_copy o.skew_max (forwarded o past) frame.sequence_number c.args.now ≡ false = sym (c.would_forward.ensures _ _ keeps.managed) ∙ c.if-not-would_forward.true in
    redundant_away o past a (sym passed ∙ c.if-not-passed.false) (rw (← frame.sequence_number_is, copy, managed) refl)

pub returns-clause-value : goal.returns-clause-value
returns-clause-value c = λ past net keeps passed.
    let o = c.args.settings.now in
    let frame = c.args.frame.now in
    let a = arrived net c.args.now frame.whole.now in
    let first : is_redundant o (forwarded o past) a ≡ false = elim c.else-managed.branch [
      | else-managed-via-then-managed+else-not-would_forward w ↦
          let first : is_first_copy o.skew_max (forwarded o past) frame.sequence_number c.args.now ≡ true = sym (w.would_forward.ensures _ _ keeps.managed) ∙ w.if-not-would_forward.false in
          let managed : o.redundancy ≡ true = sym c.redundancy-managed.ensures ∙ w.if-managed.true in
          rw (← frame.sequence_number_is, first, managed) refl
      | else-managed-via-else-managed w ↦
          let managed : o.redundancy ≡ false = sym c.redundancy-managed.ensures ∙ w.if-managed.false in
          rw managed refl
    ] in
    not_away o past a (sym passed ∙ c.if-not-passed.false) first
