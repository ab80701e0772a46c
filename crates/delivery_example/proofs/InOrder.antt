-- A link's events, where it took A's frame before the second of B, by the replies.
use Rattle.std.proofs.Common.{◌≡◌, ◌∙◌, ◌<◌, ap, ℕ, List, [], ◌∷◌, inl, inr}
use Rattle.std.specs.Prelude.{◌⊎◌, reverse}
use Rattle.es_base.specs.declared.event.Arrival.{Arrival}
use Rattle.es_base.specs.declared.event.Event.{Event}
use Rattle.es_base.specs.declared.place.Net.TheVariants.{A, B}
use Rattle.es_base.specs.Past.{event_of}
use Rattle.network_calls.specs.declared.call.Call.{Call}
use Rattle.network_calls.specs.declared.reply.Reply.{Reply}
use Rattle.network_calls.specs.Calls.{calls_from}
use Rattle.delivery_example.specs.Example.{arrival_on_a, first_arrival_on_b, first_on_a, first_on_b, second_arrival_on_b, second_on_b}
use Rattle.delivery_example.specs.Order.{WasTakenBefore}
use Rattle.delivery_example.proofs.Brings.{AreInEitherOrder, AreThree}
use Rattle.delivery_example.proofs.Orders.{IsEventOf, Three, orders}
use Rattle.delivery_example.proofs.Replied.{IsCall, is_event}

are_three : (first second third : Arrival) (es : List Event) (e f g : Event) → es ≡ e ∷ f ∷ g ∷ [] → e ≡ event_of first e.room e.verdict → f ≡ event_of second f.room f.verdict → g ≡ event_of third g.room g.verdict
    → AreThree first second third (reverse es)
are_three first second third es e f g are is_first is_second is_third = record {
  answers = (e.room, f.room, g.room);
  verdicts = (e.verdict, f.verdict, g.verdict);
  is = ap (λ (es : List Event). reverse es) are ∙ (λ i. is_third i ∷ is_second i ∷ is_first i ∷ []);
}

-- `shows` is the place that a reply shows of a call.
module _ (shows : ℕ → ℕ) where
  -- a call is that of an arrival, whose reply has this place
  pub record IsCallOf (a : Arrival) (place : ℕ) (c : Call) : Type 0 where
    pub time : c.time ≡ a.time
    pub frame : c.frame ≡ a.frame
    pub at : place ≡ shows c.place

  event_is : (a : Arrival) (k place : ℕ) (c : Call) (e : Event) → IsCallOf a place c → IsEventOf a.net k c e → e ≡ event_of a e.room e.verdict
  event_is a k place c e call_is is = is_event a k c e call_is.time call_is.frame is

  by_order : (es : List Event) (p q r : ℕ) (x y z : Call) → (shows 2 < shows 1 → ⊥) → p < r → IsCallOf arrival_on_a p x → IsCallOf first_arrival_on_b q y → IsCallOf second_arrival_on_b r z
      → Three A B B x y z es ⊎ (Three B A B y x z es ⊎ Three B B A y z x es) → AreInEitherOrder (reverse es)
  by_order es p q r x y z never before is_x is_y is_z (inl three) =
      inl (are_three arrival_on_a first_arrival_on_b second_arrival_on_b es three.e three.f three.g three.are
      (event_is arrival_on_a 0 p x three.e is_x three.is)
      (event_is first_arrival_on_b 1 q y three.f is_y three.after)
      (event_is second_arrival_on_b 2 r z three.g is_z three.last_is))
  by_order es p q r x y z never before is_x is_y is_z (inr (inl three)) =
      inr (are_three first_arrival_on_b arrival_on_a second_arrival_on_b es three.e three.f three.g three.are
      (event_is first_arrival_on_b 0 q y three.e is_y three.is)
      (event_is arrival_on_a 1 p x three.f is_x three.after)
      (event_is second_arrival_on_b 2 r z three.g is_z three.last_is))
  by_order es p q r x y z never before is_x is_y is_z (inr (inr three)) =
      let place_of_a : p ≡ shows 2 = is_x.at ∙ ap (λ (c : Call). shows c.place) three.last_is.of_call in
      let place_of_c : r ≡ shows 1 = is_z.at ∙ ap (λ (c : Call). shows c.place) three.after.of_call in
      absurd (never (rw (place_of_a, place_of_c) at before))

  pub in_order : (es : List Event) (to_a first_to_b second_to_b : Reply) (a : IsCall 100 first_on_a to_a) (b : IsCall 900 first_on_b first_to_b) (c : IsCall 10500 second_on_b second_to_b) (x y z : Call)
      → (shows 2 < shows 1 → ⊥) → WasTakenBefore to_a second_to_b
      → IsCallOf arrival_on_a a.place x → IsCallOf first_arrival_on_b b.place y → IsCallOf second_arrival_on_b c.place z → calls_from 0 A es ≡ x ∷ [] → calls_from 0 B es ≡ y ∷ z ∷ []
      → AreInEitherOrder (reverse es)
  in_order es to_a first_to_b second_to_b a b c x y z never taken is_x is_y is_z of_a of_b =
      let before : a.place < c.place = rw (a.is, c.is) at taken in
      by_order es a.place b.place c.place x y z never before is_x is_y is_z (orders es x y z of_a of_b)
