-- rule: none (the two networks, compared)
use Rattle.std.specs.Prelude.{Bool, true, false}
use Rattle.es_base.specs.declared.place.Net.{Net}
use Rattle.es_base.specs.declared.place.Net.TheVariants as nets

abbrev pub is_same_net : Net → Net → Bool
is_same_net nets.A nets.A = true
is_same_net nets.A nets.B = false
is_same_net nets.B nets.A = false
is_same_net nets.B nets.B = true
