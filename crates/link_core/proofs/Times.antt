-- What is kept of each network alone, at first and after one more event.
use Rattle.std.proofs.Common.{◌≡◌, ℕ, List, None, Some, if◌then◌else◌}
use Rattle.es_base.specs.declared.place.Net.{Net}
use Rattle.es_base.specs.declared.place.Net.TheVariants as nets
use Rattle.es_base.specs.declared.event.Event.{Event}
use Rattle.es_base.specs.Networks.{is_same_net}
use Rattle.link_core.specs.declared.nets.NetStates.{NetStates}
use Rattle.link_core.specs.Nets.{latest_in}
use Rattle.link_core.specs.Past.{latest_on}

pub no_times : (kept : NetStates) → kept.a.latest ≡ None → kept.b.latest ≡ None → (net : Net) → latest_in kept net ≡ None
no_times kept a b nets.A = a
no_times kept a b nets.B = b

module _ (old new : NetStates) (past : List Event) (time : ℕ) (was : (net : Net) → latest_in old net ≡ latest_on past net) where
  pub time_on_a : new.a.latest ≡ Some time → new.b ≡ old.b → (net : Net) → latest_in new net ≡ (if is_same_net nets.A net then Some time else latest_on past net)
  time_on_a is same nets.A = is
  time_on_a is same nets.B = rw same (was nets.B)

  pub time_on_b : new.b.latest ≡ Some time → new.a ≡ old.a → (net : Net) → latest_in new net ≡ (if is_same_net nets.B net then Some time else latest_on past net)
  time_on_b is same nets.A = rw same (was nets.A)
  time_on_b is same nets.B = is
