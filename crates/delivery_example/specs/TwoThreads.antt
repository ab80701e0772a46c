-- What the two threads did with a system that keeps no frame.
use Rattle.std.specs.Prelude.{◌≡◌, ℕ, List, [], ◌∷◌}
use Rattle.es_base.specs.declared.place.Net.{Net}
use Rattle.es_base.specs.declared.place.Net.TheVariants.{A, B}
use Rattle.es_base.specs.Config.{Configuration}
use Rattle.mailbox_port.specs.Port.{most_readers}
use Rattle.receiver.specs.declared.ends.LinkEnds.{LinkEnds}
use Rattle.receiver.specs.declared.partition.PartitionEnd.{PartitionEnd}
use Rattle.receiver.specs.declared.receiver.Reply.{Reply}
use Rattle.network_calls.specs.declared.settled.Settled.{Settled}
use Rattle.live_system.specs.Calls.{LiveLink}
use Rattle.live_system.specs.Run.{Step, received}
use Rattle.network_calls.specs.Passes.{KnownNet, System}
use Rattle.live_system.specs.Pass.{KnownLink}
use Rattle.live_system.specs.System.{IsPassOf, Replies}
use Rattle.delivery_laws.specs.Live.{DeliversEach}
use Rattle.delivery_example.specs.Example.{first_time_on_b, second_time_on_b, time_on_a}

-- a pass gave a frame, and this was replied
pub record GaveOne (system : System) (old : KnownNet KnownLink) (now : ℕ) (octets : List ℕ) (new : KnownNet KnownLink) (reply : Reply) : Type 0 where
  pub own : IsPassOf system new
  pub net : new.net ≡ old.net
  pub replies : Replies system.config old now octets reply new

-- these frames were given, with these replies, the latest first
abbrev pub steps_of_threads : (on_a first_on_b second_on_b : List ℕ) (to_a first_to_b second_to_b : Reply) → List (Net × Step)
steps_of_threads on_a first_on_b second_on_b to_a first_to_b second_to_b =
    (B, received second_time_on_b second_on_b second_to_b) ∷ (B, received first_time_on_b first_on_b first_to_b) ∷ (A, received time_on_a on_a to_a) ∷ []

-- the system ended as its law of delivery says of these calls
pub record EndedAfter (config : Configuration) (on_a first_on_b second_on_b : List ℕ) (to_a first_to_b second_to_b : Reply) (settled : Settled LiveLink) : Type 0 where
  pub system : System
  pub of_config : system.config ≡ config
  pub ends : List (LinkEnds PartitionEnd)
  pub delivers : DeliversEach (λ _. most_readers) system (steps_of_threads on_a first_on_b second_on_b to_a first_to_b second_to_b) ends settled.links.items
