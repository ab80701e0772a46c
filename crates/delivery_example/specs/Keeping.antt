-- What the task did with a system that keeps its links' histories.
use Rattle.std.specs.Prelude.{◌≡◌, ℕ, List, [], ◌∷◌, slice_get, Option, None, Some}
use Rattle.es_base.specs.declared.place.Net.{Net}
use Rattle.es_base.specs.declared.place.Net.TheVariants.{A, B}
use Rattle.es_base.specs.Config.{Configuration}
use Rattle.link_receiver.specs.declared.outlet.Outlet.{Outlet}
use Rattle.link_receiver.specs.Epoch.{Handed}
use Rattle.link_receiver.specs.Link.{Link, all_deliveries_of}
use Rattle.link_receiver.specs.Outlet.{ShowsDelivered}
use Rattle.network_calls.specs.declared.reply.Reply.{Reply}
use Rattle.end_system.specs.declared.ends.LinkEnds.{LinkEnds}
use Rattle.network_calls.specs.declared.settled.Settled.{Settled}
use Rattle.end_system.specs.Run.{Step, received, took}
use Rattle.network_calls.specs.Passes.{System}
use Rattle.delivery_laws.specs.Histories.{DeliversEach}
use Rattle.delivery_laws.specs.Holding.{AreOutletsOf, EachHolds}
use Rattle.delivery_example.specs.Example.{first_time_on_b, nav_message, nav, second_time_on_b, time_on_a}

-- these frames were given, with these replies, and an epoch of link 17 taken out before the last, if there is one: the
-- latest first
abbrev pub steps_of_keeping : (on_a first_on_b second_on_b : List ℕ) (to_a first_to_b second_to_b : Reply) (epoch : Option Handed) → List (Net × Step)
steps_of_keeping on_a first_on_b second_on_b to_a first_to_b second_to_b epoch =
    (B, received second_time_on_b second_on_b second_to_b) ∷ (A, took (record { 0 = 17 }) epoch) ∷ (B, received first_time_on_b first_on_b first_to_b)
    ∷ (A, received time_on_a on_a to_a)
    ∷ []

-- the system ended as its laws of delivery say of these calls
pub record EndedKeeping (config : Configuration) (on_a first_on_b second_on_b : List ℕ) (to_a first_to_b second_to_b : Reply) (settled : Settled Link) : Type 0 where
  pub system : System
  pub of_config : system.config ≡ config
  pub ends : List LinkEnds
  pub epoch : Option Handed
  pub delivers : DeliversEach system (steps_of_keeping on_a first_on_b second_on_b to_a first_to_b second_to_b epoch) ends settled.links.items
  pub holds : EachHolds system ends settled.links.items

-- the queue of the link's port was given exactly this message, once: a taker that meets the link has it
pub record IsHeldOnce (link : Link) : Type 0 where
  pub given : all_deliveries_of link nav ≡ nav_message ∷ []
  pub put : (outlets : List Outlet) → AreOutletsOf link outlets → ShowsDelivered (slice_get outlets 0) (nav_message ∷ [])

abbrev pub HoldsMessage : Option Link → Type 0
HoldsMessage None = ⊥
HoldsMessage (Some link) = IsHeldOnce link
