-- A system, with the passes that are left to hand out; and the same in a slot.
use Rattle.std.specs.Prelude.{◌≡◌, ℕ, List, is_some, Option, None, Some, if◌then◌else◌}
use Rattle.es_base.specs.declared.place.Net.{Net}
use Rattle.es_base.specs.declared.place.Net.TheVariants.{A, B}
use Rattle.es_base.specs.Config.{Configuration}
use Rattle.es_base.specs.Port.{Port}
use Rattle.receiver.specs.declared.ends.LinkEnds.{LinkEnds}
use Rattle.receiver.specs.declared.partition.PartitionEnd.{PartitionEnd}
use Rattle.network_calls.specs.Passes.{KnownNet, System}
use Rattle.network_calls.specs.Threads.{BothPasses}
use Rattle.live_system.specs.Pass.{KnownLink}
use Rattle.live_system.specs.Run.{AreOpened}
use Rattle.receiver_slots.specs.Codes.{already_open, done, no_network, none_left, not_open}
use Rattle.receiver_slots.specs.Numbers.{net_of_number}
use Rattle.receiver_slots.specs.Slot.{InSlot}
use Rattle.system_slots.specs.Passing.{Passing}

pub record Running : Type 0 where
  pub system : System
  -- the pass of each network, until it is handed out
  pub a : Option Passing
  pub b : Option Passing

-- ---- the opening

abbrev pub passing : System → KnownNet KnownLink → Passing
passing system pass = record { system = system; pass = pass }

-- a new system of this configuration, with the passes of both networks, and the ends of all ports; each sampling port
-- has as many readers as this says
-- rule: EMB-25
pub record IsNewSystem (readers : Port → ℕ) (config : Configuration) (new : Running) (ends : List (LinkEnds PartitionEnd)) : Type 0 where
  pub of_config : new.system.config ≡ config
  pub passes : BothPasses KnownLink
  pub of_a : new.a ≡ Some (passing new.system passes.a)
  pub of_b : new.b ≡ Some (passing new.system passes.b)
  pub opened : AreOpened readers new.system passes ends

abbrev pub config_of_system : Running → Configuration
config_of_system running = running.system.config

-- ---- the passes

abbrev pub pass_left : Net → Running → Option Passing
pass_left A now = now.a
pass_left B now = now.b

abbrev pub without_pass : Net → Running → Running
without_pass A now = record now { a = None }
without_pass B now = record now { b = None }

abbrev pub pass_code : Running → Option Net → ℕ
pass_code from None = no_network
pass_code from (Some net) = if is_some (pass_left net from) then done else none_left

abbrev pub hand_pass_code : Option (InSlot Running) → Option Passing → ℕ → ℕ
hand_pass_code None to net = not_open
hand_pass_code (Some from) None net = pass_code from.opened (net_of_number net)
hand_pass_code (Some from) (Some pass) net = already_open

-- the pass of the network with this number was handed out, and nothing else changed
-- rule: EMB-25
abbrev pub HandsPass : ℕ → Option (InSlot Running) → Option (InSlot Running) → Option Passing → Type 0
HandsPass net (Some old) (Some new) handed =
    (on : Net) × (net_of_number net ≡ Some on) × (handed ≡ pass_left on old.opened) × (new.opened ≡ without_pass on old.opened) × (new.ends ≡ old.ends)
HandsPass net (Some old) None handed = ⊥
HandsPass net None new handed = ⊥
