-- The room that a handle owns: what stands at its address, or nothing at null.
use Rattle.std.specs.Prelude.{◌≡◌, ℕ}
use Rattle.std.specs.Borrow.{Fml, RattleType, fsep, ftrue}
use Rattle.std.specs.Ptr.{Ptr, if_non_null, null_ptr, points_to}
use base.Fml.{fex}
use denote.RawPtr.{Testable}
use Rattle.slot_handles.specs.Marks.{no_mark}

-- an address that may be compared with null, since it lies less than 2 ^ 63 octets into its block; at null the mark is that of no kind
pub record IsPlace (at : Ptr) (mark : ℕ) : Type 0 where
  pub may_be_tested : Testable at
  pub none_at_null : at ≡ null_ptr → mark ≡ no_mark

-- contents of this type, with this mark, at the address, unless it is null
abbrev pub owns_room : (R : RattleType) → Ptr → ℕ → R.Denot → Fml
owns_room R at mark room = fsep (fex (IsPlace at mark) (λ _. ftrue)) (if_non_null at (points_to R at room))
