-- `is_null` meets its contract: it loads the address and compares it, and the handle is as it was.
use types.Kit.{fjoin3}
use Rattle.slot_handles.proofs.Steps.{List, [], ◌∷◌, refl, proved, full_share, ftrue, flft, named, Val, vbool, tables, ‵, ◌⊛◌, ◌$◌, ◌∵◌, !, qed, done, move, keep, split, join, fsplit3, fjoin, frame, feq_i, rewrite, suffices, enter, of_opd, lit, bin, load, stop, fld, returns, alloc_all, pass_all, free_all, look_at, get, through, sets, MutRef, mut_vals, mut_Tells, plain, nothing, opens, closes, Stays, walk_of, says, stay_ref, Goes-ref, ends_at}
use mir.Val.{vptr}
use types.ByLocal.{is}
use types.Part.{whole, sub, look_in}
use denote.Memory.{cell_at}
use denote.RawPtr.{tests_null}
use Rattle.slot_handles.proofs.Places.{answer, typed, word}
use Rattle.slot_handles.proofs.ReaderTaking.{handle_in, handle_out}
use Rattle.slot_handles.specs.contracts.reader_handle.ReaderHandle.{the_row as R}
use Rattle.slot_handles.specs.contracts.reader_handle.ReaderHandle.is_null as f
use Rattle.slot_handles.proofs.reader_handle.ReaderHandle.is_null.Statement.{statement}
use Rattle.slot_handles.proofs.reader_handle.ReaderHandle.is_null.Code as code

pub is_null_spec : {M : Type 1} → statement M
is_null_spec 𝓤 𝓛 𝓜 𝓡 wired =
    let c = f.clauses 𝓛 𝓜.mem 𝓡.returns in let 𝓣 = tables 𝓤 𝓛.H 𝓜 𝓡 𝓡.env in
    let stayed : Stays f.ended.signature.params f.ended.kept = (stay_ref (0 ∷ []) tt (plain (λ _. R)), tt) in let W = walk_of 𝓛 f.ended stayed c in
    proved 𝓛 f.ended stayed c 𝓜 𝓡 (Goes-ref 𝓛 1 0 tt (plain (λ _. R)), tt)
    f.Key.name code.function (code.unfolded 𝓤 𝓛.H 𝓜 𝓡 wired)
    (λ κs. (mut_vals, tt)) (λ κs. (mut_Tells (named 0) κs.0 R, tt)) (λ κs qs bounds a _ are.
    let κ = κs.0 in let q = qs.0 in let b = a.0.ref_ptr.0 in let o = a.0.ref_ptr.1 in let h = a.0.now in let vs = mut_vals a.0 in
    let y : W.Ghost = ((κs, qs, bounds, a, (vs, tt)), tt) in
    let Cell = λ (ws : List Val). ‵ (cell_at full_share R.mir ws b o) in
    qed 𝓛 (((‵ (flft κ q) ⊛ ‵ ftrue) ⊛ ‵ ((MutRef (named 0) κ R).own_val a.0 vs) ⊛ ‵ ftrue) ∷ ‵ ftrue ∷ []) ∵
    split ! $ split ! $ move ! (2 ∷ []) $ split ! $ keep ! (0 ∷ 2 ∷ []) $
    enter ! _ _ _ _ _ $ alloc_all ! (λ l. pass_all ! refl ((tt, tt), tt) $
    fsplit3 ! $ move ! (1 ∷ 2 ∷ 3 ∷ []) $ opens ! tt R b o (λ us.
    move ! (1 ∷ []) $ handle_out ! h us (λ is-word place. rewrite ! 1 Cell is-word refl $
    let asked = answer h.at h.room.mark place in
    -- [the room; the handle's cell; the open borrow, in three entries; self's first part]
    sets ! (of_opd ! (load ! (through ! refl (fld ! refl (stop !))) (look_in ! 1 (sub ! 0 refl (whole !))))) refl (typed h.at) $
    sets ! (is ! (bin ! (get ! refl) (lit ! tt) (tests_null h.at place.may_be_tested)) asked.1) refl (tt, tt) $
    handle_in ! h place $ move ! (1 ∷ 0 ∷ []) $ closes ! tt R h (word h.at ∷ []) b o $
    feq_i ! (List Val) (vptr b o ∷ []) (vptr b o ∷ []) refl $ fjoin3 ! $
    -- [the reference; the token]
    returns ! (look_at ! 0 refl) $ free_all ! refl $ keep ! (0 ∷ 1 ∷ []) $
    suffices ! _ (ends_at 𝓛 f.ended stayed c y (vbool asked.0) asked.0 (h, tt) (tt, tt)) $ says ! (refl, asked.2) $
    nothing ! $ move ! (2 ∷ 0 ∷ []) $ join ! $ frame ! $
    feq_i ! (List Val) (vbool asked.0 ∷ []) (vbool asked.0 ∷ []) refl $ nothing ! $ move ! (2 ∷ 0 ∷ []) $ fjoin ! $ done !))))
