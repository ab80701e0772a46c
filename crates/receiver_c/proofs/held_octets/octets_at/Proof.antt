-- `octets_at` meets its contract: the address of the octets and their count go into the result.
use Rattle.slot_handles.proofs.Steps.{List, [], ◌∷◌, refl, w64, proved, ftrue, flft, named, Val, vint, tables, ‵, ◌⊛◌, ◌$◌, ◌∵◌, !, qed, done, move, drop, split, join, fjoin, feq_i, suffices, enter, of_opd, addr, stop, fld, hop, no_more, and_then, returns, alloc_all, pass_all, free_all, look_at, get, sets, u8, RawPtr, block_ptr, plain, nothing, Stays, walk_of, says, stay_dropped, Goes-dropped, ends_at, yes}
use Rattle.std.specs.Prelude.{length}
use Rattle.receiver_c.specs.contracts.held_octets.HeldOctets.{the_type}
use Rattle.receiver_c.specs.declared.held_octets.HeldOctets.{HeldOctets}
use mir.Val.{vptr, vstruct, vcons, vnil}
use types.Kit.{fpack, flt_i}
use denote.Builtin.{usize}
use denote.RattleType.{Valss}
use denote.Struct.Struct.{within}
use denote.Struct.Declared.{shape}
use Prim.Native.Nat.{◌^◌}
use types.Part.{whole, sub, agg}
use types.Run.{from}
use types.ByLocal.{look_in_at, get_in}
use denote.Signature.{shr_slice_of}
use denote.Slice.{ShrSlice, shr_slice_vals, shr_slice_Tells}
use Rattle.receiver_c.specs.contracts.held_octets.octets_at as f
use Rattle.receiver_c.proofs.held_octets.octets_at.Statement.{statement}
use Rattle.receiver_c.proofs.held_octets.octets_at.Code as code

abbrev stayed : Stays f.ended.signature.params f.ended.kept
stayed = (stay_dropped (shr_slice_of (0 ∷ []) tt (plain (λ _. u8))) yes, tt)

pub octets_at_spec : {M : Type 1} → statement M
octets_at_spec 𝓤 𝓛 𝓜 𝓡 wired =
    let c = f.clauses 𝓛 𝓜.mem 𝓡.returns in let W = walk_of 𝓛 f.ended stayed c in let 𝓣 = tables 𝓤 𝓛.H 𝓜 𝓡 𝓡.env in
    proved 𝓛 f.ended stayed c 𝓜 𝓡 (Goes-dropped 𝓛 1 (shr_slice_of (0 ∷ []) tt (plain (λ _. u8))) yes (λ κs x w. refl), tt)
    f.Key.name code.function (code.unfolded 𝓤 𝓛.H 𝓜 𝓡 wired)
    (λ κs. (shr_slice_vals, tt)) (λ κs. (shr_slice_Tells (named 0) κs.0 u8, tt)) (λ κs qs bounds a _ are.
    let κ = κs.0 in let q = qs.0 in let b = a.0.ref_ptr.0 in let o = a.0.ref_ptr.1 in let xs = a.0.now in
    let fits = are.0.0.1.0 in
    let y : W.Ghost = ((κs, qs, bounds, a, (shr_slice_vals a.0, tt)), tt) in
    qed 𝓛 (((‵ (flft κ q) ⊛ ‵ ftrue) ⊛ ‵ ((ShrSlice (named 0) κ u8).own_val a.0 (shr_slice_vals a.0)) ⊛ ‵ ftrue) ∷ ‵ ftrue ∷ []) ∵
    split ! $ split ! $ move ! (2 ∷ []) $ split ! $ drop ! $ drop ! $ move ! (1 ∷ []) $ drop ! $
    -- [the token of κ; ..]
    enter ! _ _ _ _ _ $ alloc_all ! (λ l. pass_all ! refl ((tt, (tt, (record { fits = fits }, tt))), tt) $
    sets ! (addr ! (from ! (fld ! refl (hop ! (look_in_at ! 1 (sub ! 0 refl (whole !))) (stop !))))) refl (tt, tt) $
    sets ! (of_opd ! (get_in ! (fld ! refl (stop !)) (sub ! 1 refl (whole !)))) refl (tt, record { fits = fits }) $
    sets ! (agg ! (and_then ! (get ! refl) (and_then ! (get ! refl) (no_more !)))) refl (tt, (tt, (record { fits = fits }, tt))) $
    returns ! (look_at ! 0 refl) $ free_all ! refl $
    let r : HeldOctets = record { at = block_ptr b o; len = length xs } in
    let word = vstruct (vcons (vptr b o) (vcons (vint w64 (length xs)) vnil)) in
    nothing ! $ flt_i ! (length xs) (2 ^ 64) fits $ feq_i ! (List Val) (vint w64 (length xs) ∷ []) (vint w64 (length xs) ∷ []) refl $ fjoin ! $ fjoin ! $
    feq_i ! (List Val) (vptr b o ∷ []) (vptr b o ∷ []) refl $ fjoin ! $ feq_i ! (List Val) (word ∷ []) (word ∷ []) refl $ fjoin ! $
    fpack ! (Valss (RawPtr ∷ usize ∷ [])) (within (shape the_type) (r.at, (r.len, tt)) (word ∷ [])) (vptr b o ∷ [], (vint w64 (length xs) ∷ [], tt)) $
    -- [the result; the token of κ; nothing]
    suffices ! _ (ends_at 𝓛 f.ended stayed c y word r (tt, tt) (tt, tt)) $ says ! (refl, refl) $
    nothing ! $ nothing ! $ join ! $ move ! (2 ∷ 3 ∷ []) $ join ! $ done !))
