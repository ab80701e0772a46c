-- A past of the three arrivals brings the message.
use Rattle.std.proofs.Common.{◌≡◌, ◌∙◌, sym, subst, refl, Bool, true, List, [], ◌∷◌, inl, inr}
use Rattle.std.specs.Prelude.{◌⊎◌}
use Rattle.es_base.specs.declared.event.Arrival.{Arrival}
use Rattle.es_base.specs.declared.event.Event.{Event}
use Rattle.es_base.specs.declared.verdict.Verdict.{Verdict}
use Rattle.link_rules.specs.Run.{IsRun}
use Rattle.datagram_delivery.specs.Interleaved.{BringDatagrams, Carried, messages_ended}
use Rattle.delivery_example.specs.Example.{arrival_on_a, first_arrival_on_b, link_with_nav, nav_message, nav, second_arrival_on_b, sent, sent_if_b_is_first}
use Rattle.delivery_example.proofs.Example.{bring, bring_if_b_is_first}
use Rattle.delivery_example.proofs.Rooms.{AreTrue, each_has_room, each_has_room_if_b_is_first, three}

-- these three arrivals are the past
pub record AreThree (first second third : Arrival) (past : List Event) : Type 0 where
  pub answers : Bool × Bool × Bool
  pub verdicts : Verdict × Verdict × Verdict
  pub is : past ≡ three first second third answers verdicts

-- it brings datagrams, whose one message is that of the example
pub record BringsMessage (past : List Event) : Type 0 where
  pub carried : List Carried
  pub bring : BringDatagrams link_with_nav past carried
  pub ends : messages_ended nav carried ≡ nav_message ∷ []

with_rooms : (first second third : Arrival) (answers : Bool × Bool × Bool) (verdicts : Verdict × Verdict × Verdict) → AreTrue answers
    → three first second third answers verdicts ≡ three first second third (true, true, true) verdicts
with_rooms first second third answers verdicts rooms = λ i. three first second third (rooms.0 i, rooms.1 i, rooms.2 i) verdicts

of_a_first : (past : List Event) → AreThree arrival_on_a first_arrival_on_b second_arrival_on_b past → IsRun link_with_nav past → BringsMessage past
of_a_first past are run =
    let rooms : AreTrue are.answers = each_has_room are.answers are.verdicts (subst (IsRun link_with_nav) are.is run) in
    let same = are.is ∙ with_rooms arrival_on_a first_arrival_on_b second_arrival_on_b are.answers are.verdicts rooms in
    record {
      carried = sent;
      bring = subst (λ (events : List Event). BringDatagrams link_with_nav events sent) (sym same) (bring are.verdicts.0 are.verdicts.1 are.verdicts.2);
      ends = refl;
    }

of_b_first : (past : List Event) → AreThree first_arrival_on_b arrival_on_a second_arrival_on_b past → IsRun link_with_nav past → BringsMessage past
of_b_first past are run =
    let rooms : AreTrue are.answers = each_has_room_if_b_is_first are.answers are.verdicts (subst (IsRun link_with_nav) are.is run) in
    let same = are.is ∙ with_rooms first_arrival_on_b arrival_on_a second_arrival_on_b are.answers are.verdicts rooms in
    record {
      carried = sent_if_b_is_first;
      bring = subst (λ (events : List Event). BringDatagrams link_with_nav events sent_if_b_is_first) (sym same) (bring_if_b_is_first are.verdicts.0 are.verdicts.1 are.verdicts.2);
      ends = refl;
    }

-- whichever copy of the first frame the link took first
abbrev pub AreInEitherOrder : List Event → Type 0
AreInEitherOrder past = AreThree arrival_on_a first_arrival_on_b second_arrival_on_b past ⊎ AreThree first_arrival_on_b arrival_on_a second_arrival_on_b past

pub brings_message : (past : List Event) → AreInEitherOrder past → IsRun link_with_nav past → BringsMessage past
brings_message past (inl are) run = of_a_first past are run
brings_message past (inr are) run = of_b_first past are run
