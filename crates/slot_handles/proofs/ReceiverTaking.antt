-- The cell of a receiver's handle and its room: taken apart, and put together.
use Rattle.slot_handles.proofs.Steps.{◌≡◌, List, [], ◌∷◌, ◌++◌, refl, ftrue, Val, ‵, ◌$◌, drop, fsplit, fjoin, feq_i, feq_l, RawPtr, nothing, points_to}
use Rattle.std.proofs.Common.{subst}
use seplogic.Ra.Ura.{Ura}
use mir.Val.{vstruct, of_list}
use types.Logic.{Logic}
use types.Kit.{Goal, Step, step, Seq, Item, fpick, fpack}
use denote.RattleType.{Valss}
use denote.RawPtr.{ptr_val}
use denote.Struct.Struct.{within}
use denote.Struct.Owning.{shape}
use Rattle.std.specs.Ptr.{if_non_null}
use Rattle.slot_handles.specs.Room.{IsPlace}
use Rattle.slot_handles.proofs.Places.{word}
use Rattle.slot_handles.specs.contracts.marked.MarkedReceiver.{the_row as T}
use Rattle.slot_handles.specs.declared.receiver_handle.ReceiverHandle.{ReceiverHandle as Handle}
use Rattle.slot_handles.specs.contracts.receiver_handle.ReceiverHandle.{the_row as R, the_type}

module _ {M : Type 1} {𝓤 : Ura M} {𝓛 : Logic 𝓤} {K : Type 0} {Γ : List (Item 𝓤)} {G : Goal 𝓤 𝓛.H} where
  pub handle_out : K → (h : Handle) (vs : List Val) → (vs ≡ word h.at ∷ [] → IsPlace h.at h.room.mark → Seq K 𝓛 (‵ (if_non_null h.at (points_to T h.at h.room)) ∷ Γ) G)
      → Seq K 𝓛 (‵ (R.own_val h vs) ∷ Γ) G
  handle_out t h vs k =
      fsplit t $ fpick t (λ vss. fsplit t $ feq_l t (λ ev. fsplit t $ feq_l t (λ ep. drop t $ fsplit t $ fpick t (λ place. drop t $ k
      (subst (λ (ps : List Val). vs ≡ vstruct (of_list (ps ++ [])) ∷ []) ep ev) place))))

  pub handle_in : K → (h : Handle) → IsPlace h.at h.room.mark
      → Step K 𝓛 (‵ (R.own_val h (word h.at ∷ [])) ∷ Γ) G (‵ (if_non_null h.at (points_to T h.at h.room)) ∷ Γ) G
  handle_in t h place = step (λ s.
      nothing t $ fpack t (IsPlace h.at h.room.mark) (λ _. ftrue) place $ fjoin t $
      nothing t $ feq_i t (List Val) (ptr_val h.at ∷ []) (ptr_val h.at ∷ []) refl $ fjoin t $
      feq_i t (List Val) (word h.at ∷ []) (word h.at ∷ []) refl $ fjoin t $
      fpack t (Valss (RawPtr ∷ [])) (within (shape the_type) (h.at, tt) (word h.at ∷ [])) (ptr_val h.at ∷ [], tt) $ fjoin t $ s)
