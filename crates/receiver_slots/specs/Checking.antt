-- Keys of a text that aren't their tables' own.
use Rattle.std.specs.Prelude.{◌≡◌, ℕ, List, None, Some, Ok}
use Rattle.es_base.specs.Config.{Configuration}
use Rattle.vl_config.specs.Octets.{config_of}
use Rattle.vl_config.specs.Stray.{stray_in}
use Rattle.vl_config.specs.declared.document.stray.Stray.{Stray}
use Rattle.receiver_slots.specs.Replies.{stray_reply_of}
use Rattle.receiver_slots.specs.declared.told.replies.FaultReply.{FaultReply}

-- the configuration in these octets has no such key
-- rule: EMB-48
abbrev pub IsWithoutStray : List ℕ → Type 0
IsWithoutStray octets = (config : Configuration) × (config_of octets ≡ Ok config) × (stray_in octets ≡ None)

-- it has one, and this is its first table with one
-- rule: EMB-48
abbrev pub HasStray : List ℕ → FaultReply → Type 0
HasStray octets reply =
    (config : Configuration) × (config_of octets ≡ Ok config) × (stray : Stray) × (stray_in octets ≡ Some stray) × (reply ≡ stray_reply_of stray)
