-- How a Reassembly ends that was lent from.
use Rattle.std.specs.Prelude.{⊤}
use Rattle.std.specs.Borrow.{MutBor, Fml, follows_so}
use mathlib.Core.Option.{none}
use Rattle.ip_reassembly.specs.declared.reassembly.Reassembly.{Reassembly}
use Rattle.ip_reassembly.specs.contracts.reassembly.Reassembly.{the_row}

-- once nothing that it lent is used any more, this holds of it
abbrev pub EndsWith : MutBor Reassembly → (Reassembly → Type 0) → Fml
EndsWith lender P = follows_so the_row the_row lender.ghost_name none (λ _ _. ⊤) P
