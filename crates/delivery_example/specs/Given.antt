-- The port of the example has its message.
use Rattle.std.specs.Prelude.{◌≡◌, [], ◌∷◌, slice_get, Option, None, Some}
use Rattle.receiver.specs.declared.port.PortOutlet.{PortOutlet}
use Rattle.receiver.specs.Link.{Ported}
use Rattle.receiver.specs.Port.{ShowsPort}
use Rattle.delivery_example.specs.Example.{nav_message, nav_port}

-- the queue of the link's port was given exactly this message, once
pub record HasNavMessage (link : Ported PortOutlet) : Type 0 where
  pub outlet : PortOutlet
  pub there : slice_get link.outlets 0 ≡ Some outlet
  pub given : ShowsPort nav_port outlet (nav_message ∷ [])

abbrev pub WasGivenOnce : Option (Ported PortOutlet) → Type 0
WasGivenOnce None = ⊥
WasGivenOnce (Some link) = HasNavMessage link
