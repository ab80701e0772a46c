-- What the outlets of a link lose, place by place, and after one more frame.
use Rattle.std.proofs.Common.{◌≡◌, ◌∙◌, ap, sym, subst, refl, ℕ, zero, suc, ◌+◌, ◌<◌, ◌==◌, ◌&&◌, Bool, true, false, List, [], ◌∷◌, ◌++◌, length, map, Option, None, Some, nat_lt, ⊎_elim, append-nil, if◌then◌else◌}
use Rattle.std.specs.List.{slice_get, slice_set}
use Rattle.std.proofs.lemmas.Bool.{cases_eq, eq-eqb, ne_eqb}
use Rattle.std.proofs.lemmas.Option.{slice_get_within}
use Rattle.es_base.specs.declared.event.Arrival.{Arrival}
use Rattle.es_base.specs.declared.event.Message.{Message}
use Rattle.es_base.specs.declared.place.PortNo.{PortNo}
use Rattle.es_base.specs.declared.port.PortKind.{PortKind}
use Rattle.es_base.specs.declared.port.PortKind.TheVariants.{Sampling, Queuing}
use Rattle.es_base.specs.declared.verdict.Decision.{Decision}
use Rattle.es_base.specs.declared.verdict.Decision.TheVariants.{Final, ByQueue}
use Rattle.es_base.specs.declared.verdict.Verdict.{Verdict}
use Rattle.es_base.specs.declared.verdict.Verdict.TheVariants as verdicts
use Rattle.es_base.specs.Limits.{most_samples}
use Rattle.es_base.specs.Port.{Port}
use Rattle.es_base.proofs.Elements.{slice_get-set_other, slice_get-set_same}
use Rattle.link_core.specs.declared.offer.Lent.{Lent}
use Rattle.link_core.specs.Counted.{port_no}
use Rattle.link_core.specs.Link.{Link, decision_after, delivered_after, message_of, messages_for, outcome_after}
use Rattle.link_core.proofs.Away.{away_decided}
use Rattle.link_core.specs.Seen.{kept_away}
use Rattle.link_rules.specs.Deliveries.{delivered, is_same_port, number_delivered, takes_one_more}
use Rattle.link_rules.specs.Outcome as way
use Rattle.link_rules.specs.Run.{decided, decided_at, settled}
use Rattle.receiver.specs.Link.{Ported, TellsLosses, losses_of, lost_since_of, ported}
use Rattle.receiver.specs.Losses.{is_overflow, since_these}
use Rattle.receiver.specs.Outlet.{CountsPut, HasSpaceForLent, CountsAsked, CountsAskedAt, LoseNothing, LostAt, with_answer}
use Rattle.receiver.proofs.Frames.{IsLent}
use Rattle.receiver.proofs.Refusals.{NeverOverflows, only_queues_overflow}

-- ---- what an event lost

-- what a port lost, after its queue was asked by this decision
abbrev pub asked_at : Decision → Bool → PortNo → ℕ → ℕ
asked_at (Final verdict) room port lost = lost
asked_at (ByQueue at) room port lost = if is_same_port at port then with_answer room lost else lost

-- the event of a frame with this verdict, which delivered these messages, adds to what was lost what its queue answered
record TellsAnswer (verdict : Verdict) (decision : Decision) (room : Bool) (port : PortNo) (messages : List Message) (lost : ℕ) : Type 0 where
  before : map (λ (m : Message). asked_at decision room port lost) messages ≡ map (λ (m : Message). lost) messages
  since : since_these messages (asked_at decision room port lost) ≡ (if is_overflow verdict port then lost + 1 else since_these messages lost)

same_if : (is : Bool) (lost : ℕ) → (if is then lost else lost) ≡ lost
same_if true lost = refl
same_if false lost = refl

sampled_other : (at port : PortNo) (number : ℕ) (numbered : Bool) → is_overflow (if numbered then verdicts.Sampled at number else verdicts.Exhausted at) port ≡ false
sampled_other at port number true = refl
sampled_other at port number false = refl

refuses_it : (same : Bool) (at port : PortNo) (message : Message) (lost : ℕ) → is_same_port at port ≡ same
    → TellsAnswer (verdicts.Overflow at) (ByQueue at) false port (if is_same_port at port && false then message ∷ [] else []) lost
refuses_it true at port message lost is = rw is (record { before = refl; since = rw is refl })
refuses_it false at port message lost is = rw is (record { before = refl; since = rw is refl })

told_at : (kind : PortKind) (at port : PortNo) (before number : ℕ) (room : Bool) (message : Message) (lost : ℕ)
    → TellsAnswer (settled (decided_at kind at number) room) (decided_at kind at number) room port (if is_same_port at port && takes_one_more kind room before then message ∷ [] else []) lost
told_at (Sampling refresh) at port before number room message lost =
    record { before = refl; since = rw (sampled_other at port (number + 1) (nat_lt number most_samples)) refl }
told_at (Queuing depth) at port before number true message lost = record { before = rw (same_if (is_same_port at port) lost) refl; since = rw (same_if (is_same_port at port) lost) refl }
told_at (Queuing depth) at port before number false message lost = refuses_it (is_same_port at port) at port message lost refl

told : (outcome : way.Outcome) (number : PortNo → ℕ) (room : Bool) (time : ℕ) (port : PortNo) (lost : ℕ) → NeverOverflows outcome
    → TellsAnswer (settled (decided outcome number) room) (decided outcome number) room port (delivered outcome room time port (number port)) lost
told way.out_of_sequence number room time port lost never = record { before = refl; since = refl }
told way.redundant number room time port lost never = record { before = refl; since = refl }
told (way.refused verdict) number room time port lost never = record { before = refl; since = rw (never port) refl }
told (way.brings payload) number room time port lost never =
    told_at payload.kind payload.port port (number port) (number payload.port) room (record { time = time; octets = payload.octets }) lost

-- ---- the outlets

module _ {P : Type 0} (loses : P → List ℕ → ℕ → Type 0) where
  -- one outlet changed
  one_changed : (old : List P) (at : ℕ) (before after : P) (losses losses' : ℕ → List ℕ) (since since' : ℕ → ℕ) → slice_get old at ≡ Some before
      → (loses before (losses at) (since at) → loses after (losses' at) (since' at))
      → ((place : ℕ) → (place ≡ at → ⊥) → (losses' place ≡ losses place) × (since' place ≡ since place))
      → ((place : ℕ) → LostAt loses (slice_get old place) (losses place) (since place))
      → (place : ℕ) → LostAt loses (slice_get (slice_set old at after) place) (losses' place) (since' place)
  one_changed old at before after losses losses' since since' there goes others has place =
      let within : at < length old = slice_get_within old at before there in
      let was : loses before (losses at) (since at) = rw there at (has at) in
      let mine : LostAt loses (slice_get (slice_set old at after) at) (losses' at) (since' at) = rw (slice_get-set_same old at after within) (goes was) in
      ⊎_elim
      (λ (same : place ≡ at).
      let Q : ℕ → Type 0 = λ q. LostAt loses (slice_get (slice_set old at after) q) (losses' q) (since' q) in
      subst Q (sym same) mine)
      (λ (other : place ≡ at → ⊥). let are = others place other in rw (slice_get-set_other old at place after other, are.0, are.1) (has place))
      (cases_eq place at)

  -- the outlet that an end met, or that was looked at, lost nothing more
  pub still_loses : (core : Link) (old : List P) (received : ℕ) (at : ℕ) (before after : P) → slice_get old at ≡ Some before
      → ((losses : List ℕ) (since : ℕ) → loses before losses since → loses after losses since)
      → TellsLosses loses (ported core old received) → TellsLosses loses (ported core (slice_set old at after) received)
  still_loses core old received at before after there keeps has =
      let link = ported core old received in
      one_changed old at before after (λ p. losses_of link (port_no p)) (λ p. losses_of link (port_no p)) (λ p. lost_since_of link (port_no p)) (λ p. lost_since_of link (port_no p)) there
      (keeps (losses_of link (port_no at)) (lost_since_of link (port_no at))) (λ p other. (refl, refl)) has

  -- the outlet that was asked counted its answer
  asked_counts : (old mid : List P) (decision : Decision) (room : Bool) (losses : ℕ → List ℕ) (since : ℕ → ℕ) → CountsAsked loses old mid decision room
      → ((place : ℕ) → LostAt loses (slice_get old place) (losses place) (since place))
      → (place : ℕ) → LostAt loses (slice_get mid place) (losses place) (asked_at decision room (port_no place) (since place))
  asked_counts old mid (Final verdict) room losses since is has place = rw is (has place)
  asked_counts old mid (ByQueue port) room losses since is has place = go (slice_get old port.0) refl is
    where
      go : (found : Option P) → slice_get old port.0 ≡ found → CountsAskedAt loses old mid port found room
          → LostAt loses (slice_get mid place) (losses place) (if port.0 == place then with_answer room (since place) else since place)
      go None there counted = rw (counted.1, counted.0, same_if (port.0 == place) (since place)) (has place)
      go (Some before) there counted =
          let mine : loses before (losses port.0) (since port.0) → loses counted.0 (losses port.0) (if port.0 == port.0 then with_answer room (since port.0) else since port.0) =
          λ was. rw (eq-eqb port.0 port.0 refl) (counted.1 (losses port.0) (since port.0) was) in
          rw counted.2
          (one_changed old port.0 before counted.0 losses losses since (λ p. if port.0 == p then with_answer room (since p) else since p) there mine
          (λ p other. (refl, rw (ne_eqb port.0 p (λ same. other (sym same))) refl)) has place)

  module _ (shows : Port → P → List Message → Type 0) (has_space : P → Type 0) where
    -- the outlet that was given a payload has what was lost before
    put_counts : (mid new : List P) (time : ℕ) (payload : Option Lent) (losses : ℕ → List ℕ) (since : ℕ → ℕ) → CountsPut loses mid new payload → HasSpaceForLent shows has_space mid payload
        → ((place : ℕ) → LostAt loses (slice_get mid place) (losses place) (since place))
        → (place : ℕ) → LostAt loses (slice_get new place) (losses place ++ map (λ (m : Message). since place) (messages_for (port_no place) time payload))
        (since_these (messages_for (port_no place) time payload) (since place))
    put_counts mid new time None losses since is space has place = rw (is, append-nil (losses place)) (has place)
    put_counts mid new time (Some lent) losses since is space has place =
        let after = is space.0 space.1 in
        let at = lent.port.0 in
        let these : ℕ → List Message = λ p. messages_for (port_no p) time (Some lent) in
        let same : these at ≡ message_of time lent ∷ [] = rw (eq-eqb at at refl) refl in
        let mine : loses space.0 (losses at) (since at) → loses after.0 (losses at ++ map (λ (m : Message). since at) (these at)) (since_these (these at) (since at)) =
        λ was. rw same (after.1 (losses at) (since at) was) in
        rw after.2
        (one_changed mid at space.0 after.0 losses (λ p. losses p ++ map (λ (m : Message). since p) (these p)) since (λ p. since_these (these p) (since p)) space.1 mine
        (λ p other. let none : these p ≡ [] = rw (ne_eqb at p (λ same. other (sym same))) refl in (rw none (append-nil (losses p)), rw none refl)) has place)

    -- the link after one more frame
    pub tells_more : (old new : Ported P) (mid : List P) (a : Arrival) (room : Bool) (verdict : Verdict) (payload : Option Lent)
        → CountsAsked loses old.outlets mid (decision_after old.core.settings old.core.past a) room → IsLent old.core new.core a room verdict payload
        → CountsPut loses mid new.outlets payload → HasSpaceForLent shows has_space mid payload → TellsLosses loses old → TellsLosses loses new
    tells_more old new mid a room verdict payload counted lent put space has = rw lent.core (λ place.
        let o = old.core.settings in
        let past = old.core.past in
        let port = port_no place in
        let lost = lost_since_of old port in
        let decision = decision_after o past a in
        let these = delivered_after o past a room port in
        let is = told (outcome_after o past a) (number_delivered o past) room a.time port lost (only_queues_overflow o past a) in
        let after = put_counts mid new.outlets a.time payload (λ p. losses_of old (port_no p)) (λ p. asked_at decision room (port_no p) (lost_since_of old (port_no p))) put space
        (asked_counts old.outlets mid decision room (λ p. losses_of old (port_no p)) (λ p. lost_since_of old (port_no p)) counted has) place in
        let told_these : LostAt loses (slice_get new.outlets place) (losses_of old port ++ map (λ (m : Message). asked_at decision room port lost) these) (since_these these (asked_at decision room port lost)) =
        rw (← lent.message port) at after in
        rw lent.becomes (rw (is.before, is.since) at told_these))

    -- where nobody was asked, nothing was counted
    pub nobody_counts : (old : Ported P) (a : Arrival) (verdict : Verdict) → kept_away (outcome_after old.core.settings old.core.past a) ≡ Some verdict
        → CountsAsked loses old.outlets old.outlets (decision_after old.core.settings old.core.past a) true
    nobody_counts old a verdict away = rw (sym (away_decided (outcome_after old.core.settings old.core.past a) verdict (number_delivered old.core.settings old.core.past) away)) refl

  -- ---- the opening

  pub none_push : (outlets : List P) (last : P) → LoseNothing loses outlets → loses last [] 0 → LoseNothing loses (outlets ++ last ∷ [])
  none_push [] last none is zero = is
  none_push [] last none is (suc place) = tt
  none_push (outlet ∷ outlets) last none is zero = none zero
  none_push (outlet ∷ outlets) last none is (suc place) = none_push outlets last (λ p. none (suc p)) is place

  pub new_tells : (core : Link) (outlets : List P) (received : ℕ) → core.past ≡ [] → LoseNothing loses outlets → TellsLosses loses (ported core outlets received)
  new_tells core outlets received none nothing = λ place. rw none (nothing place)
