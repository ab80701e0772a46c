use Rattle.std.proofs.Common.{◌≡◌, length}
use Rattle.es_base.proofs.Keys.{AreKeysUpTo}
use Rattle.es_base.proofs.settings.keys_of.Given as goal

-- the ports so far have their keys
abbrev pub invariant-keys : goal.invariant-keys
invariant-keys l = (length l.keys ≡ 32) × AreKeysUpTo l.place l.ports l.keys
