-- The keys of each kind of table: those that the receiver reads, and those that the tools read beside them (own).
use Rattle.std.specs.Prelude.{ℕ, Bool, List, [], ◌∷◌, ◌++◌, map, codes, Option, None, Some}
use Rattle.std.specs.List.{list_any}
use Rattle.std.specs.Str.{bytes_eq}
use Rattle.vl_config.specs.Fault.{key_name}
use Rattle.vl_config.specs.declared.fault.Key.{Key}
use Rattle.vl_config.specs.declared.fault.Key.TheVariants as keys
use Rattle.vl_config.specs.declared.document.keys.Level.{Level}
use Rattle.vl_config.specs.declared.document.keys.Level.TheVariants.{Document, Link, Port}
use Rattle.vl_config.specs.declared.document.place.FaultPlace.{FaultPlace}

-- those that the receiver reads
-- rule: CONF-28
abbrev pub read_keys : Level → List Key
read_keys Document = keys.Constant ∷ keys.Link ∷ []
read_keys Link = keys.Vl ∷ keys.SkewMaxUs ∷ keys.Redundancy ∷ keys.ReassemblyUs ∷ keys.Window ∷ keys.Port ∷ []
read_keys Port = keys.Name ∷ keys.Kind ∷ keys.Address ∷ keys.Udp ∷ keys.Max ∷ keys.RefreshUs ∷ keys.Depth ∷ []

-- those that the tools read beside them
-- rule: CONF-28
abbrev pub tool_keys : Level → List (List ℕ)
tool_keys Document = []
tool_keys Link = codes "name" ∷ codes "not_one_sender" ∷ codes "bag_us" ∷ codes "jitter_us" ∷ []
tool_keys Port = codes "read_us" ∷ codes "take_us" ∷ codes "readers" ∷ []

abbrev pub own_keys : Level → List (List ℕ)
own_keys level = map key_name (read_keys level) ++ tool_keys level

-- whether a key is one of its table's own
abbrev pub is_own : Level → List ℕ → Bool
is_own level name = list_any (bytes_eq name) (own_keys level)

abbrev pub level_if : Option ℕ → Option ℕ → Level
level_if None port = Document
level_if (Some link) None = Link
level_if (Some link) (Some port) = Port

-- the kind of the table at this place
abbrev pub level_at : FaultPlace → Level
level_at place = level_if place.link place.port
