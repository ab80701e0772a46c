-- The number of the interface for C (own).
use Rattle.std.specs.Prelude.{ℕ}

-- raised with each change of a struct, a call or a number
abbrev pub abi : ℕ
abi = 9
