-- End of a system after a frame of network A and a burst of network B.
use Rattle.std.specs.Prelude.{◌≡◌, ℕ, List, [], ◌∷◌, ◌++◌, length, map}
use Rattle.es_base.specs.declared.place.Net.{Net}
use Rattle.es_base.specs.declared.place.Net.TheVariants.{A, B}
use Rattle.es_base.specs.Config.{Configuration}
use Rattle.mailbox_port.specs.Port.{most_readers}
use Rattle.receiver.specs.declared.ends.LinkEnds.{LinkEnds}
use Rattle.receiver.specs.declared.partition.PartitionEnd.{PartitionEnd}
use Rattle.receiver.specs.declared.receiver.Reply.{Reply}
use Rattle.network_calls.specs.declared.settled.Settled.{Settled}
use Rattle.live_system.specs.Calls.{LiveLink}
use Rattle.live_system.specs.Burst.{Frames, steps_in_turn}
use Rattle.live_system.specs.Run.{HasEnded, RanAlone, Step, received}
use Rattle.network_calls.specs.Passes.{KnownNet, System}
use Rattle.live_system.specs.Pass.{KnownLink}
use Rattle.live_system.specs.System.{IsPassOf, Replies}

-- the most frames of a burst
abbrev pub room : ℕ
room = 32

-- a pass gave a frame, and this was replied
pub record Gave (system : System) (old : KnownNet KnownLink) (now : ℕ) (octets : List ℕ) (new : KnownNet KnownLink) (reply : Reply) : Type 0 where
  pub own : IsPassOf system new
  pub net : new.net ≡ old.net
  pub replies : Replies system.config old now octets reply new

-- a pass gave a burst, and this was replied
pub record GaveAll (system : System) (old : KnownNet KnownLink) (frames : Frames) (new : KnownNet KnownLink) (replies : List Reply) : Type 0 where
  pub own : IsPassOf system new
  pub net : new.net ≡ old.net
  pub replied : RanAlone system old (steps_in_turn frames replies) new

-- network B's calls
abbrev pub on_b : Step → Net × Step
on_b step = (B, step)

-- a frame on network A, and the frames of a burst on network B, one after another, with what was replied
abbrev pub frame_and_burst : List ℕ → Frames → Reply → List Reply → List (Net × Step)
frame_and_burst a b to_a to_b = map on_b (steps_in_turn b to_b) ++ (A, received 1000 a to_a) ∷ []

-- it ends as the law of all calls says of these, with a reply to each frame
pub record IsWholeLive (config : Configuration) (a : List ℕ) (b : Frames) (to_a : Reply) (to_b : List Reply) (settled : Settled LiveLink) : Type 0 where
  pub system : System
  pub of_config : system.config ≡ config
  pub ends : List (LinkEnds PartitionEnd)
  pub each : length to_b ≡ length b
  pub ended : HasEnded (λ _. most_readers) system (frame_and_burst a b to_a to_b) ends settled.links.items settled.a settled.b
