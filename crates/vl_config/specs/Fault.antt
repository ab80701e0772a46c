-- The keys of a configuration by their spelling, and what a function returns that takes memory.
use Rattle.std.specs.Prelude.{◌≡◌, List, ℕ, codes, Result}
use Rattle.es_base.specs.Returns.{GivesOr}
use Rattle.vl_config.specs.declared.fault.ConfigFault.{ConfigFault}
use Rattle.vl_config.specs.declared.fault.ConfigFault.TheVariants.{Memory}
use Rattle.vl_config.specs.declared.fault.Key.{Key}
use Rattle.vl_config.specs.declared.fault.Key.TheVariants as keys

-- rule: CONF-1, FAULT-5
abbrev pub key_name : Key → List ℕ
key_name keys.Constant = codes "constant"
key_name keys.Link = codes "link"
key_name keys.Vl = codes "vl"
key_name keys.SkewMaxUs = codes "skew_max_us"
key_name keys.Redundancy = codes "redundancy"
key_name keys.ReassemblyUs = codes "reassembly_us"
key_name keys.Window = codes "window"
key_name keys.Port = codes "port"
key_name keys.Name = codes "name"
key_name keys.Kind = codes "kind"
key_name keys.Address = codes "address"
key_name keys.Udp = codes "udp"
key_name keys.Max = codes "max"
key_name keys.RefreshUs = codes "refresh_us"
key_name keys.Depth = codes "depth"
key_name keys.Readers = codes "readers"

-- what is returned, seen through `view`, is what was read, the fault included; or memory ran out
abbrev pub GivesOrMemory : {X Y : Type 0} → (X → Y) → Result X ConfigFault → Result Y ConfigFault → Type 0
GivesOrMemory view = GivesOr (λ fault. fault ≡ Memory) view
