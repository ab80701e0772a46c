-- The conditions that `no_frame_is_lost` asks, each with a name, and copies that meet all but one.
use Rattle.std.specs.Prelude.{◌≡◌, ◌+◌, ◌*◌, ◌≤◌, ◌<◌, max, true, List, []}
use Rattle.es_base.specs.Settings.{Settings}
use Rattle.frame_delivery.specs.Sending.{Copy, HaveNumbers, Numbering}
use Rattle.frame_delivery.specs.Once.{FirstsInOrder}
use Rattle.frame_delivery.specs.Network.{BeginNear, KeepsTimes, LosesFew, Timing}
use Rattle.frame_delivery.specs.Since.{passing_since}

pub data Condition : Type 0 where
  -- SkewMax covers what the times on the way differ by
  covers : Condition
  -- SkewMax is over before the sender restarts
  restarts : Condition
  -- the networks begin near each other
  near : Condition
  -- each network loses few in a row
  losses : Condition
  -- the first copy of a frame comes before those of later frames
  firsts : Condition
  -- no copy is taken so late that 128 frames more came before it
  late : Condition
  -- nor the first after a restart
  late_restart : Condition

-- what a condition says
abbrev pub IsMet : Condition → Settings → Numbering → Timing → List Copy → Type 0
IsMet covers settings numbering timing copies = timing.greatest ≤ timing.least + settings.skew_max
IsMet restarts settings numbering timing copies = timing.greatest + settings.skew_max < timing.least + timing.pause
IsMet near settings numbering timing copies = BeginNear settings.skew_max copies × BeginNear settings.skew_max (passing_since settings [] copies)
IsMet losses settings numbering timing copies = LosesFew numbering settings.window copies
IsMet firsts settings numbering timing copies = FirstsInOrder copies
IsMet late settings numbering timing copies = timing.greatest + timing.wait < timing.least + 128 * timing.gap
IsMet late_restart settings numbering timing copies = timing.greatest + timing.wait < timing.least + max timing.gap timing.pause

-- what is asked besides: redundancy management is on, and the copies are those of a sender's frames, and come at the times
-- that are named
pub record AreCopies (settings : Settings) (numbering : Numbering) (timing : Timing) (copies : List Copy) : Type 0 where
  pub redundancy : settings.redundancy ≡ true
  pub first : numbering.first ≤ 255
  pub numbers : HaveNumbers numbering copies
  pub times : KeepsTimes numbering timing copies

-- all is met but this one
-- rule: DELIV-15
pub record MeetAllBut (one : Condition) (settings : Settings) (numbering : Numbering) (timing : Timing) (copies : List Copy) : Type 0 where
  pub are : AreCopies settings numbering timing copies
  pub others : (other : Condition) → (other ≡ one → ⊥) → IsMet other settings numbering timing copies
  pub not_met : IsMet one settings numbering timing copies → ⊥
