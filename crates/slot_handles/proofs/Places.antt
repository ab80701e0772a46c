-- The address of a handle: its machine value, and what a test for null answers.
use Rattle.std.specs.Prelude.{◌≢◌}
use Rattle.slot_handles.proofs.Steps.{◌≡◌, ℕ, refl, Val, Bool, vbool, Ptr, block_ptr}
use Rattle.std.proofs.Common.{lit<, true, false, subst}
use lib.Dec.{T as Holds}
use mir.Syntax.{ty_ptr, ptr_eq}
use mir.Val.{vstruct, vcons, vnil, vnull, op2_val, has_ty, WT}
use denote.RawPtr.{InBlock, null_ptr, ptr_val}
use Rattle.std.specs.Bool.{MatchBool}
use Rattle.slot_handles.specs.Marks.{no_mark}
use Rattle.slot_handles.specs.Room.{IsPlace}

-- the machine value of a handle to here
abbrev pub word : Ptr → Val
word p = vstruct (vcons (ptr_val p) vnil)

pub in_block : (p : Ptr) → p ≢ null_ptr → InBlock p
in_block (block_ptr b o) some = tt
in_block null_ptr some = absurd (some refl)

-- where there is a room any contents may stand in it
pub place_of : {p : Ptr} {m : ℕ} → p ≢ null_ptr → IsPlace p m → (m' : ℕ) → IsPlace p m'
place_of some place m' = record { may_be_tested = place.may_be_tested; none_at_null = λ z. absurd (some z) }

pub typed : (p : Ptr) → Holds (has_ty ty_ptr (ptr_val p)) × WT (ptr_val p)
typed (block_ptr b o) = (tt, tt)
typed null_ptr = (tt, record { fits = lit< tt })

-- the test for null: what it answers, and what that says
pub answer : (p : Ptr) (m : ℕ) → IsPlace p m → (y : Bool) × (op2_val ptr_eq (ptr_val p) vnull ≡ vbool y) × MatchBool y (m ≡ no_mark) (p ≢ null_ptr)
answer (block_ptr b o) m place = (false, refl, λ z. subst InBlock z tt)
answer null_ptr m place = (true, refl, place.none_at_null refl)
