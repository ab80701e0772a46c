-- The values of an array, as the code has them.
use Rattle.std.proofs.Common.{◌≡◌, ap, List, [], ◌∷◌, map, refl}
use Rattle.toml.specs.View.{view, items_view}
use Rattle.toml.specs.declared.value.Value.{Value}
use Rattle.vl_config.specs.Table.{values_in}

pub values_of_items : (values : List Value) → values_in (items_view values) ≡ map view values
values_of_items [] = refl
values_of_items (value ∷ values) = ap (λ rest. view value ∷ rest) (values_of_items values)
