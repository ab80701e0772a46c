-- `lend_room` meets its contract: what stands in the room leaves, and the handle follows it.
use Rattle.slot_handles.proofs.Steps.{◌≡◌, List, [], ◌∷◌, refl, sym, proved, full_share, ftrue, flft, named, Val, vptr, fact, tables, ‵, raw, ◌⊛◌, some, later, at_ret, ◌$◌, ◌∵◌, !, qed, done, move, keep, use1, split, join, fsplit3, fjoin, pick, await, rewrite, suffices, frame, group, heard, enter, of_opd, addr, load, stop, fld, first, blocks, exec, returns, alloc_all, pass_all, free_all, look_at, get, through, sets, env, Ptr, block_ptr, MutRef, mut_vals, mut_Tells, plain, nothing, opens, Stays, walk_of, says, stay_dropped, ends_at, mem, part_at, points_to}
use Rattle.std.specs.Prelude.{◌≢◌}
use seplogic.Ra.Ura.{Ura}
use base.Logic.{ent, sep}
use base.Fml.{GName, fsep}
use types.Logic.{Logic, sem}
use types.Kit.{fpack}
use types.Part.{whole, sub, look_in}
use types.ByLocal.{sets_last}
use denote.Exit.{no}
use denote.Follow.{follows, lends_Part}
use denote.Memory.{cell_at, part_of}
use denote.RawPtr.{at_block, block_of, count_of, null_ptr}
use denote.Signature.{mut_ref_to}
use denote.Triple.Walked.{Goes-spent_ref}
use Rattle.std.proofs.VecSteps.Shapes.{after}
use Rattle.std.specs.Ptr.{if_non_null}
use Rattle.slot_handles.proofs.Places.{in_block, place_of, word}
use Rattle.system_c.proofs.PassTaking.{handle_in, handle_out}
use Rattle.system_c.specs.PassLending.{with_slot}
use Rattle.slot_handles.specs.Room.{IsPlace}
use Rattle.system_c.specs.contracts.marked.MarkedPass.{the_row as T}
use Rattle.system_c.specs.declared.pass_handle.PassHandle.{PassHandle as Handle}
use Rattle.system_c.specs.contracts.pass_handle.PassHandle.{the_row as R}
use Rattle.system_c.specs.contracts.pass_handle.PassHandle.lend_room as f
use Rattle.system_c.proofs.pass_handle.PassHandle.lend_room.Statement.{statement}
use Rattle.system_c.proofs.pass_handle.PassHandle.lend_room.Code as code

back : {M : Type 1} {𝓤 : Ura M} (𝓛 : Logic 𝓤) (b o : _) (h : Handle) (b' o' : _) → h.at ≡ block_ptr b' o' → h.at ≢ null_ptr → IsPlace h.at h.room.mark → (w : T.Denot)
    → ent 𝓤 (sep 𝓤 (sem 𝓛 ((mem T).own_at w b' o')) (sem 𝓛 (cell_at full_share R.mir (word (block_ptr b' o') ∷ []) b o))) (sem 𝓛 ((mem R).own_at (with_slot h w) b o))
unfolding part_of
back 𝓛 b o h b' o' e some-room place w =
    qed 𝓛 (‵ (part_at T full_share w b' o') ∷ ‵ (cell_at full_share R.mir (word (block_ptr b' o') ∷ []) b o) ∷ []) ∵
    rewrite ! 0 (λ (p : Ptr). ‵ (if_non_null p (points_to T p w))) (sym e) refl $
    rewrite ! 1 (λ (p : Ptr). ‵ (cell_at full_share R.mir (word p ∷ []) b o)) (sym e) refl $
    handle_in ! (with_slot h w) (place_of some-room place w.mark) $ move ! (1 ∷ 0 ∷ []) $ fjoin ! $
    fpack ! (List Val) (λ us. fsep (cell_at full_share R.mir us b o) (R.own_val (with_slot h w) us)) (word h.at ∷ []) $ done !

pub lend_room_spec : {M : Type 1} → statement M
lend_room_spec 𝓤 𝓛 𝓜 𝓡 wired =
    let c = f.clauses 𝓛 𝓜.mem 𝓡.returns in let 𝓣 = tables 𝓤 𝓛.H 𝓜 𝓡 𝓡.env in
    let stayed : Stays f.ended.signature.params f.ended.kept = (stay_dropped (mut_ref_to (0 ∷ []) tt (plain (λ _. R))) no, tt) in let W = walk_of 𝓛 f.ended stayed c in
    proved 𝓛 f.ended stayed c 𝓜 𝓡 (Goes-spent_ref 𝓛 1 (0 ∷ []) tt (plain (λ _. R)), tt)
    f.Key.name code.function (code.unfolded 𝓤 𝓛.H 𝓜 𝓡 wired)
    (λ κs. (mut_vals, tt)) (λ κs. (mut_Tells (named 0) κs.0 R, tt)) (λ κs qs bounds a _ are.
    let κ = κs.0 in let q = qs.0 in let b = a.0.ref_ptr.0 in let o = a.0.ref_ptr.1 in let γ = a.0.ghost_name in let h = a.0.now in let vs = mut_vals a.0 in
    let y : W.Ghost = ((κs, qs, bounds, a, (vs, tt)), tt) in
    let Cell = λ (ws : List Val). ‵ (cell_at full_share R.mir ws b o) in
    let b' = block_of h.at in let o' = count_of h.at in
    qed 𝓛 (((‵ (flft κ q) ⊛ ‵ ftrue) ⊛ ‵ ((MutRef (named 0) κ R).own_val a.0 vs) ⊛ ‵ ftrue) ∷ raw (fact 𝓤 (h.at ≢ null_ptr)) ∷ []) ∵
    move ! (1 ∷ 0 ∷ []) $ heard ! (h.at ≢ null_ptr) (λ some-room. let e = at_block h.at (in_block h.at some-room) in
    split ! $ split ! $ move ! (2 ∷ []) $ split ! $ keep ! (0 ∷ 2 ∷ []) $
    enter ! _ _ _ _ _ $ alloc_all ! (λ l. pass_all ! refl ((tt, tt), tt) $
    fsplit3 ! $ move ! (1 ∷ 2 ∷ 3 ∷ []) $ opens ! tt R b o (λ us.
    move ! (1 ∷ []) $ handle_out ! h us (λ is place. rewrite ! 1 Cell is refl $
    rewrite ! 0 (λ (p : Ptr). ‵ (if_non_null p (points_to T p h.room))) e refl $ rewrite ! 1 (λ (p : Ptr). Cell (word p ∷ [])) e refl $
    -- [the room; the handle's cell; the open borrow, in three entries; self's first part]
    first ! $ blocks ! $
    sets ! (of_opd ! (load ! (through ! refl (fld ! refl (stop !))) (look_in ! 1 (sub ! 0 refl (whole !))))) refl (tt, tt) $
    sets ! (of_opd ! (get ! refl)) refl (tt, tt) $
    sets_last ! (addr ! (through ! refl (stop !))) refl (tt, tt) $
    exec ! 𝓣.C 𝓣.Λ (env code.Mir.locals l) (after 1 (code.function).body) (at_ret _ (W.post y)) $
    sets ! (of_opd ! (get ! refl)) refl (tt, tt) $
    let Rest = sem 𝓛 (cell_at full_share R.mir (word (block_ptr b' o') ∷ []) b o) in
    move ! (2 ∷ 3 ∷ 4 ∷ 0 ∷ 1 ∷ []) $ group ! 5 $
    use1 𝓛 (later (some (λ (δ : GName). ‵ ((MutRef (named 0) κ T).own_val (record { ref_ptr = (b', o'); ghost_name = δ; now = h.room }) (vptr b' o' ∷ [])) ⊛ (‵ (flft κ q) ⊛ ‵ (follows R T γ δ (with_slot h))))))
    (lends_Part 𝓛 R T (with_slot h) (named 0) κ q b o b' o' γ Rest (back 𝓛 b o h b' o' e some-room place) (R.coded.code h) (R.coded.code h) h.room) $ await ! tt $ pick ! (λ δ.
    returns ! (look_at ! 0 refl) $ free_all ! refl $ keep ! (0 ∷ []) $ split ! $ move ! (1 ∷ []) $ split ! $ move ! (2 ∷ 0 ∷ 1 ∷ []) $
    -- [the reference; the token; that the handle follows]
    suffices ! _ (ends_at 𝓛 f.ended stayed c y (vptr b' o') (record { ref_ptr = (b', o'); ghost_name = δ; now = h.room }) (tt, tt) (tt, tt)) $
    nothing ! $ nothing ! $ fjoin ! $ join ! $ nothing ! $ move ! (2 ∷ 0 ∷ []) $ join ! $ join ! $ frame ! $ says ! refl $ done !))))))
