-- A handle may go to another thread, since its slot may.
use base.Fraction.{full_share}
use base.Shift.{Keyless}
use denote.Param.Send.{IsSend, owning_send, part_keyless, sendable}
use denote.RawPtr.{Ptr, block_ptr, null_ptr}
use Rattle.std.specs.Ptr.{if_non_null, points_to}
use Rattle.system_c.specs.contracts.pass_handle.PassHandle.{the_row, the_type}
use Rattle.system_c.specs.contracts.marked.MarkedPass.{the_row as T}
use Rattle.system_c.proofs.marked.MarkedPass.TheSendSync as slot

lies : (p : Ptr) (x : T.Denot) → Keyless (if_non_null p (points_to T p x))
lies (block_ptr b o) x = part_keyless T slot.the_send full_share x b o
lies null_ptr x = tt

pub send : IsSend the_row
send = owning_send the_type (search sendable, tt) (λ d. ((λ _. tt), lies d.at d.room)) (λ k x w. tt)
