use Rattle.std.proofs.Common.{◌≡◌, ◌∙◌, ap, List, None, Some, true, refl, rules, sym}
use Rattle.std.proofs.lemmas.Option.{same_Some, slice_get-get_or, slice_get_within}
use Rattle.std.specs.List.{slice_get}
use Rattle.es_base.specs.declared.event.Arrival.{Arrival}
use Rattle.es_base.specs.Frame.{link_number_of}
use Rattle.es_base.specs.Past.{arrived}
use Rattle.link_core.specs.Link.{arrival_in, outcome_after}
use Rattle.link_core.specs.Seen.{kept_away}
use Rattle.receiver.specs.Link.{Ported, Takes, TellsLosses, ported}
use Rattle.receiver.specs.Outlet.{CountsPut, ArePut, HasSpaceForLent}
use Rattle.receiver.proofs.Frames.{IsAsked, IsLent, has_its_place, if_refused, may_be_refused, takes_it, with_room}
use Rattle.receiver.proofs.Losses.{nobody_counts, tells_more}
use Rattle.receiver.proofs.Turned.{nobody_asked, none_refused, nothing_lent}
use Rattle.receiver.proofs.ported.PortedLink.receive.Given as given
use Rattle.receiver.proofs.ported.PortedLink.receive.Goals as goal
use Rattle.receiver.proofs.ported.PortedLink.receive.Goals.{After-take-taken, Joined-taken, in-Some-payload, in_default-payload}

-- ---- a frame that is turned away

turned_away : (g : given.Over) (c : goal.In-Some g) → kept_away (outcome_after c.self.inside.core.settings c.self.inside.core.past (arrived c.args.net c.args.now c.args.frame.now.whole.now)) ≡ Some c.in-Some.verdict
turned_away g c = sym c.turn_away.ensures.verdict ∙ c.in-Some.is

lent_nothing : (g : given.Over) (c : goal.In-Some g)
    → IsLent c.self.inside.core c.turn_away.new.self (arrived c.args.net c.args.now c.args.frame.now.whole.now) true c.in-Some.verdict None
lent_nothing g c =
    let frame = c.args.frame.now in
    nothing_lent c.self.inside.core c.turn_away.new.self (arrived c.args.net c.args.now frame.whole.now) c.in-Some.verdict (turned_away g c) c.in-Some.ensures.taken
    (record { short = frame.short; long = frame.long; carries = frame.carries }) (rw (← c.self.view_is) at c.requires.link)

takes_nothing : (g : given.Over) (c : goal.In-Some g)
    → Takes g.P.Outlet.shows g.P.Outlet.gives g.P.Outlet.answers (ported c.self.inside.core c.self.inside.outlets.items c.self.inside.received) (ported c.turn_away.new.self c.self.inside.outlets.items c.saturating_add-self-inside.result)
    (arrived c.args.net c.args.now c.args.frame.now.whole.now) c.self.inside.received c.in-Some.verdict
takes_nothing g c =
    let o = g.P.Outlet in
    let laws = g.met.P.Outlet in
    let old = ported c.self.inside.core c.self.inside.outlets.items c.self.inside.received in
    let new : Ported _ = ported c.turn_away.new.self c.self.inside.outlets.items c.saturating_add-self-inside.result in
    let a = arrived c.args.net c.args.now c.args.frame.now.whole.now in
    takes_it o.shows o.has_space o.gives o.answers laws.stays laws.adds laws.full laws.joins old new old.outlets a true c.in-Some.verdict None
    (nobody_asked o.shows o.has_space o.gives o.answers old a c.in-Some.verdict (turned_away g c)) (lent_nothing g c) refl c.self.invariant.0 c.saturating_add-self-inside.ensures

tells_nothing : (g : given.Over) (c : goal.In-Some g) → TellsLosses g.P.Outlet.loses (ported c.turn_away.new.self c.self.inside.outlets.items c.saturating_add-self-inside.result)
tells_nothing g c =
    let o = g.P.Outlet in
    let old = ported c.self.inside.core c.self.inside.outlets.items c.self.inside.received in
    let new : Ported _ = ported c.turn_away.new.self c.self.inside.outlets.items c.saturating_add-self-inside.result in
    let a = arrived c.args.net c.args.now c.args.frame.now.whole.now in
    tells_more o.loses o.shows o.has_space old new old.outlets a true c.in-Some.verdict None
    (nobody_counts o.loses o.shows o.has_space old a c.in-Some.verdict (turned_away g c)) (lent_nothing g c) refl tt c.self.invariant.1

pub invariant_of-self : goal.invariant_of-self
invariant_of-self g c = ((takes_nothing g c).after, tells_nothing g c)

pub returns-in-Some-clause-losses : goal.returns-in-Some-clause-losses
returns-in-Some-clause-losses g c = tells_nothing g c

pub returns-in-Some-clause-takes : goal.returns-in-Some-clause-takes
returns-in-Some-clause-takes g c = rw (← c.self.view_is) (takes_nothing g c)

pub returns-in-Some-clause-known : goal.returns-in-Some-clause-known
returns-in-Some-clause-known g c =
    let o = g.P.Outlet in
    let old = ported c.self.inside.core c.self.inside.outlets.items c.self.inside.received in
    let new : Ported _ = ported c.turn_away.new.self c.self.inside.outlets.items c.saturating_add-self-inside.result in
    let a = arrived c.args.net c.args.now c.args.frame.now.whole.now in
    rw (← c.self.view_is)
    (with_room o.shows o.has_space o.gives o.answers old new old.outlets c.turn_away.new.self a true c.in-Some.verdict None
    (nobody_asked o.shows o.has_space o.gives o.answers old a c.in-Some.verdict (turned_away g c)) (lent_nothing g c) refl)

pub returns-in-Some-clause-refused : goal.returns-in-Some-clause-refused
returns-in-Some-clause-refused g c =
    let old = ported c.self.inside.core c.self.inside.outlets.items c.self.inside.received in
    let new : Ported _ = ported c.turn_away.new.self c.self.inside.outlets.items c.saturating_add-self-inside.result in
    let a = arrived c.args.net c.args.now c.args.frame.now.whole.now in
    rw (← c.self.view_is) (none_refused g.P.Outlet.refuses old new a c.in-Some.verdict c.in-Some.verdict (turned_away g c))

-- ---- one that is forwarded

-- the queue of its port was asked
asked : (g : given.Over) (c : After-take-taken g)
    → IsAsked g.P.Outlet.shows g.P.Outlet.has_space g.P.Outlet.gives g.P.Outlet.answers (ported c.self.inside.core c.self.inside.outlets.items c.self.inside.received) c.room_in-room.new.outlets.items
    (arrived c.args.net c.args.now c.args.frame.now.whole.now) c.room_in-room.result
asked g c = rw (c.decision.ensures ∙ c.look-step.ensures.step.decided, c.in_default.ensures.same, c.look-step.ensures.received) at c.room_in-room.ensures.answer

-- the core took it, and lends its payload
lent : (g : given.Over) (c : After-take-taken g)
    → IsLent c.self.inside.core c.take-taken.follows.lender-at-none (arrived c.args.net c.args.now c.args.frame.now.whole.now) c.room_in-room.result c.take-taken.result.verdict c.take-taken.result.payload
lent g c =
    let step = c.look-step.result in
    let received : link_number_of (arrival_in step).frame ≡ link_number_of c.args.frame.now.whole.now = ap (λ (x : Arrival). link_number_of x.frame) c.look-step.ensures.received in
    let is_of_link : link_number_of c.args.frame.now.whole.now ≡ c.turn_away.new.self.settings.vl.0 = rw c.in_default.ensures.same (rw (← c.self.view_is) at c.requires.link) in
    let lent : IsLent c.turn_away.new.self c.take-taken.follows.lender-at-none (arrival_in step) c.room_in-room.result c.take-taken.result.verdict c.take-taken.result.payload = record {
      core = c.take-taken.follows.holds-at-none;
      becomes = c.take-taken.ensures.taken.verdict;
      message = c.take-taken.ensures.taken.message;
      lent = c.take-taken.ensures.lent;
      frame = record { short = step.frame.short; long = step.frame.long; carries = step.frame.carries };
      number = received ∙ is_of_link;
    } in
    rw (c.in_default.ensures.same, c.look-step.ensures.received) at lent

-- its port takes the payload
its_place : (g : given.Over) (c : After-take-taken g) → HasSpaceForLent g.P.Outlet.shows g.P.Outlet.has_space c.room_in-room.new.outlets.items c.take-taken.result.payload
its_place g c =
    let o = g.P.Outlet in
    let laws = g.met.P.Outlet in
    let old = ported c.self.inside.core c.self.inside.outlets.items c.self.inside.received in
    let a = arrived c.args.net c.args.now c.args.frame.now.whole.now in
    has_its_place o.shows o.has_space o.gives o.answers laws.stays laws.adds old c.room_in-room.new.outlets.items c.take-taken.follows.lender-at-none a c.room_in-room.result c.take-taken.result.verdict c.take-taken.result.payload
    (asked g c) (lent g c) c.self.invariant.0

pub take-taken-requires-clause-room : goal.take-taken-requires-clause-room
take-taken-requires-clause-room g c = λ full.
    let o = g.P.Outlet in
    let old = ported c.self.inside.core c.self.inside.outlets.items c.self.inside.received in
    let a = arrived c.args.net c.args.now c.args.frame.now.whole.now in
    let asked : IsAsked o.shows o.has_space o.gives o.answers old c.room_in-room.new.outlets.items a c.room_in-room.result =
    rw (c.decision.ensures ∙ c.look-step.ensures.step.decided, c.in_default.ensures.same, c.look-step.ensures.received) at c.room_in-room.ensures.answer in
    rw (c.in_default.ensures.same, c.look-step.ensures.received) (may_be_refused o.shows o.has_space o.gives o.answers g.met.P.Outlet.full old c.room_in-room.new.outlets.items a c.room_in-room.result asked c.self.invariant.0 full)

pub index_mut-requires : goal.index_mut-requires
index_mut-requires g c =
    let mid = c.room_in-room.new.outlets.items in
    let has = rw c.in-Some-payload.is at (its_place g (goal.at.index_mut-requires g c).After-take-taken) in
    let within = slice_get_within mid c.in-Some-payload.lent.port.0 has.0 has.1 in
    search rules

pub put-requires : goal.put-requires
put-requires g c =
    let mid = c.room_in-room.new.outlets.items in
    let port = c.in-Some-payload.lent.port.0 in
    let has = rw c.in-Some-payload.is at (its_place g (goal.at.put-requires g c).After-take-taken) in
    let there : slice_get mid port ≡ Some c.index_mut.result.now = rw c.index_mut.ensures.value (slice_get-get_or mid port _ (slice_get_within mid port has.0 has.1)) in
    rw (same_Some _ _ (sym has.1 ∙ there)) at has.2

-- and is given it
put : (g : given.Over) (c : Joined-taken g) → ArePut g.P.Outlet.gives c.room_in-room.new.outlets.items c.match-taken.self-inside.1.1.1.0.items c.args.now c.take-taken.result.payload
put g c = elim c.match-taken.branch [
  | in-Some-payload w ↦
      let mid = c.room_in-room.new.outlets.items in
      let port = w.in-Some-payload.lent.port.0 in
      rw (w.self-inside-is, w.in-Some-payload.is)
      (λ before found.
      let there : slice_get mid port ≡ Some w.index_mut.result.now = rw w.index_mut.ensures.value (slice_get-get_or mid port _ (slice_get_within mid port before found)) in
      (w.put.new.self, rw (same_Some _ _ (sym found ∙ there)) w.put.ensures.given, refl))
  | in_default-payload w ↦ rw (w.self-inside-is, w.in_default-payload.is) refl
]

-- which counts it
counted : (g : given.Over) (c : Joined-taken g) → CountsPut g.P.Outlet.loses c.room_in-room.new.outlets.items c.match-taken.self-inside.1.1.1.0.items c.take-taken.result.payload
counted g c = elim c.match-taken.branch [
  | in-Some-payload w ↦
      let mid = c.room_in-room.new.outlets.items in
      let port = w.in-Some-payload.lent.port.0 in
      rw (w.self-inside-is, w.in-Some-payload.is)
      (λ before found.
      let there : slice_get mid port ≡ Some w.index_mut.result.now = rw w.index_mut.ensures.value (slice_get-get_or mid port _ (slice_get_within mid port before found)) in
      (w.put.new.self, rw (same_Some _ _ (sym found ∙ there)) w.put.ensures.counted, refl))
  | in_default-payload w ↦ rw (w.self-inside-is, w.in_default-payload.is) refl
]

-- and the link knows what was lost
tells : (g : given.Over) (c : After-take-taken g) (outlets : List g.row.P.Denot) → CountsPut g.P.Outlet.loses c.room_in-room.new.outlets.items outlets c.take-taken.result.payload
    → TellsLosses g.P.Outlet.loses (ported c.take-taken.follows.lender-at-none outlets c.saturating_add-self-inside.result)
tells g c outlets counts =
    let o = g.P.Outlet in
    let old = ported c.self.inside.core c.self.inside.outlets.items c.self.inside.received in
    let new : Ported _ = ported c.take-taken.follows.lender-at-none outlets c.saturating_add-self-inside.result in
    let a = arrived c.args.net c.args.now c.args.frame.now.whole.now in
    let answer = rw (c.decision.ensures ∙ c.look-step.ensures.step.decided, c.in_default.ensures.same, c.look-step.ensures.received) at c.room_in-room.ensures.counted in
    tells_more o.loses o.shows o.has_space old new c.room_in-room.new.outlets.items a c.room_in-room.result c.take-taken.result.verdict c.take-taken.result.payload
    answer (lent g c) counts (its_place g c) c.self.invariant.1

-- the link took it
takes : (g : given.Over) (c : After-take-taken g) (outlets : List g.row.P.Denot) → ArePut g.P.Outlet.gives c.room_in-room.new.outlets.items outlets c.args.now c.take-taken.result.payload
    → Takes g.P.Outlet.shows g.P.Outlet.gives g.P.Outlet.answers (ported c.self.inside.core c.self.inside.outlets.items c.self.inside.received)
    (ported c.take-taken.follows.lender-at-none outlets c.saturating_add-self-inside.result) (arrived c.args.net c.args.now c.args.frame.now.whole.now) c.self.inside.received c.take-taken.result.verdict
takes g c outlets put =
    let o = g.P.Outlet in
    let laws = g.met.P.Outlet in
    let old = ported c.self.inside.core c.self.inside.outlets.items c.self.inside.received in
    let new : Ported _ = ported c.take-taken.follows.lender-at-none outlets c.saturating_add-self-inside.result in
    let a = arrived c.args.net c.args.now c.args.frame.now.whole.now in
    takes_it o.shows o.has_space o.gives o.answers laws.stays laws.adds laws.full laws.joins old new c.room_in-room.new.outlets.items a c.room_in-room.result c.take-taken.result.verdict c.take-taken.result.payload
    (asked g c) (lent g c) put c.self.invariant.0 c.saturating_add-self-inside.ensures

pub invariant_of-self-2 : goal.invariant_of-self-2
invariant_of-self-2 g c =
    let at = goal.at.invariant_of-self-2 g c in
    ((takes g at.After-take-taken _ (put g at.Joined-taken)).after, tells g at.After-take-taken _ (counted g at.Joined-taken))

pub returns-clause-losses : goal.returns-clause-losses
returns-clause-losses g c =
    let at = goal.at.returns-clause-losses g c in
    tells g at.After-take-taken _ (counted g at.Joined-taken)

pub returns-clause-takes : goal.returns-clause-takes
returns-clause-takes g c =
    let at = goal.at.returns-clause-takes g c in
    rw (← c.self.view_is) (takes g at.After-take-taken _ (put g at.Joined-taken))

pub returns-clause-known : goal.returns-clause-known
returns-clause-known g c =
    let o = g.P.Outlet in
    let at = goal.at.returns-clause-known g c in
    let old = ported c.self.inside.core c.self.inside.outlets.items c.self.inside.received in
    let new : Ported _ = ported c.take-taken.follows.lender-at-none c.match-taken.self-inside.1.1.1.0.items c.saturating_add-self-inside.result in
    let a = arrived c.args.net c.args.now c.args.frame.now.whole.now in
    rw (← c.self.view_is)
    (with_room o.shows o.has_space o.gives o.answers old new c.room_in-room.new.outlets.items c.take-taken.follows.lender-at-none a c.room_in-room.result c.take-taken.result.verdict c.take-taken.result.payload
    (asked g at.After-take-taken) (lent g at.After-take-taken) (put g at.Joined-taken))

pub returns-clause-refused : goal.returns-clause-refused
returns-clause-refused g c =
    let o = g.P.Outlet in
    let at = goal.at.returns-clause-refused g c in
    let old = ported c.self.inside.core c.self.inside.outlets.items c.self.inside.received in
    let new : Ported _ = ported c.take-taken.follows.lender-at-none c.match-taken.self-inside.1.1.1.0.items c.saturating_add-self-inside.result in
    let a = arrived c.args.net c.args.now c.args.frame.now.whole.now in
    let refusal = rw (c.decision.ensures ∙ c.look-step.ensures.step.decided, c.in_default.ensures.same, c.look-step.ensures.received) at c.room_in-room.ensures.refused in
    rw (← c.self.view_is)
    (if_refused o.shows o.has_space o.gives o.answers o.refuses old new c.room_in-room.new.outlets.items c.take-taken.follows.lender-at-none a c.room_in-room.result c.take-taken.result.verdict c.take-taken.result.payload
    refusal (lent g at.After-take-taken) (put g at.Joined-taken))
