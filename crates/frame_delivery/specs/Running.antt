-- From when SkewMax runs: from each frame that was forwarded.
use Rattle.std.specs.Prelude.{◌≡◌, ◌⊎◌, true, List, [], ◌∷◌}
use Rattle.es_base.specs.declared.event.Event.{Event}
use Rattle.es_base.specs.Past.{arrival_of}
use Rattle.link_rules.specs.Redundancy.{is_forwarded}
use Rattle.es_base.specs.Settings.{Settings}

-- this holds of each event whose frame was forwarded
abbrev pub EachForwarded : Settings → (Event → Type 0) → List Event → Type 0
EachForwarded settings Holds [] = Unit {0}
EachForwarded settings Holds (e ∷ past) = (is_forwarded settings past (arrival_of e) ≡ true → Holds e) × EachForwarded settings Holds past

-- and this of one of them
abbrev pub SomeForwarded : Settings → (Event → Type 0) → List Event → Type 0
SomeForwarded settings Holds [] = ⊥
SomeForwarded settings Holds (e ∷ past) = ((is_forwarded settings past (arrival_of e) ≡ true) × Holds e) ⊎ SomeForwarded settings Holds past
