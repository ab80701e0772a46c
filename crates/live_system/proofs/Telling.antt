-- What an answer that may not come says.
use Rattle.std.proofs.Common.{Option, None, Some}
use Rattle.std.specs.Prelude.{IfSome}

pub if_some : {X : Type 0} (answer : Option X) (P Q : X → Type 0) → ((x : X) → P x → Q x) → IfSome answer P → IfSome answer Q
if_some None P Q leads is = tt
if_some (Some x) P Q leads is = leads x is
