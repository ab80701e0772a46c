-- `yelunnavi_queue_make` meets its contract: what `new` gives goes into the room.
use Rattle.slot_handles.proofs.Steps.{◌≡◌, [], ◌∷◌, refl, proved, full_share, id⊢, ftrue, vunit, fact, tables, ‵, raw, ◌⊛◌, some, later, prop, ◌$◌, ◌∵◌, !, qed, done, move, keep, drop, use1, use2, split, join, feq_i, pick, await, rewrite, regoal, suffices, group, enter, of_opd, unit_lit, stop, no_more, assigns, returns, alloc_all, pass_all, free_all, look_at, get, through, sets, lands_as, yes, shows, Ptr, RawPtr, block_ptr, in_a_block, rawptr_vals, rawptr_Tells, plain, nothing, heard, peeks, calls_at, lasts, on_entry, triple_of, Stays, walk_of, stay_dropped, Goes-dropped, ends_at, framed, WpFn, part_at, uninit_at}
use base.Fml.{froom}
use types.Run.{init}
use denote.Memory.{lone}
use borrow.Table.OneValue.{part_in}
use Rattle.slot_handles.specs.Made.{made_taker}
use Rattle.slot_handles.specs.declared.marked.MarkedTaker.{MarkedTaker}
use Rattle.slot_handles.specs.contracts.marked.MarkedTaker.{the_row as R}
use Rattle.slot_handles.proofs.marked.MarkedTaker.TheLaws as laws
use Rattle.receiver_c.specs.contracts.yelunnavi_queue_make as f
use Rattle.receiver_c.proofs.yelunnavi_queue_make.Statement.{statement}
use Rattle.receiver_c.proofs.yelunnavi_queue_make.Code as code
use Rattle.slot_handles.specs.contracts.marked.MarkedTaker.new as g
use Rattle.slot_handles.proofs.marked.MarkedTaker.new.Met.{met}

abbrev stayed : Stays f.ended.signature.params f.ended.kept
stayed = (stay_dropped _ yes, tt)

pub yelunnavi_queue_make_spec : {M : Type 1} → statement M
yelunnavi_queue_make_spec 𝓤 𝓛 𝓜 𝓡 wired =
    let c = f.clauses 𝓛 𝓜.mem 𝓡.returns in let W = walk_of 𝓛 f.ended stayed c in let 𝓣 = tables 𝓤 𝓛.H 𝓜 𝓡 𝓡.env in
    proved 𝓛 f.ended stayed c 𝓜 𝓡 (Goes-dropped 𝓛 0 (plain (λ _. RawPtr)) yes (λ κs x w. refl), tt)
    f.Key.name code.function (code.unfolded 𝓤 𝓛.H 𝓜 𝓡 wired)
    (λ κs. (rawptr_vals, tt)) (λ κs. (rawptr_Tells, tt)) (λ κs qs bounds a _ are.
    let y : Ptr → W.Ghost = λ p. ((κs, qs, bounds, (p, tt), (rawptr_vals p, tt)), tt) in
    qed 𝓛 (raw (on_entry 𝓛 f.signature κs qs a (y a.0).0.4) ∷ ‵ (uninit_at R a.0) ∷ []) ∵ drop ! $
    in_a_block ! a.0 (λ p. uninit_at R p) (id⊢ 𝓤 _) (λ b o e.
    regoal ! (λ p. prop (WpFn 𝓤 𝓛.H 𝓣.C 𝓣.Λ code.function (rawptr_vals p) (W.post (y p)))) e refl $
    use1 𝓛 (‵ (froom (lone R.mir) b o)) (id⊢ 𝓤 _) $
    enter ! _ _ _ _ _ $ alloc_all ! (λ l. pass_all ! refl ((tt, tt), tt) $
    sets ! (of_opd ! (get ! refl)) refl (tt, tt) $
    let G = triple_of 𝓛 g.signature (g.spec 𝓛 𝓜.mem 𝓡.returns) in
    let z : G.Ghost = ((tt, tt, tt, tt, tt), tt) in
    nothing ! $ nothing ! $ join ! $ nothing ! $ move ! (1 ∷ 0 ∷ []) $ use2 𝓛 (raw (G.pre z)) (id⊢ 𝓤 _) $
    calls_at ! (framed 𝓤 𝓛.H 𝓜 𝓣) G (met 𝓤 𝓛 𝓜 𝓡 (code.calls-slot_handles::marked::MarkedTaker::new 𝓡.env wired)) z
    (no_more !) (λ v.
    use1 𝓛 (later (some (λ (t : MarkedTaker). (‵ ftrue ⊛ ‵ (R.own_val t (v ∷ []))) ⊛
    some (λ (ws : Unit {0}). ‵ (lasts g.ended tt tt ws) ⊛ raw (fact 𝓤 (t ≡ made_taker)))))) (id⊢ 𝓤 _) $
    await ! tt $ pick ! (λ t. split ! $ split ! $ drop ! $ peeks ! R _ (shows 𝓛 R) t (v ∷ []) (λ is.
    let typed = ((laws.the_row_laws.lawful 𝓛).typed t (v ∷ []) is).0 in
    lands_as ! refl refl typed $
    move ! (1 ∷ []) $ pick ! (λ ws. split ! $ drop ! $ heard ! _ (λ made. rewrite ! 0 (λ (m : MarkedTaker). ‵ (R.own_val m (v ∷ []))) made refl $
    assigns ! (of_opd ! (get ! refl)) (through ! refl (stop !)) (init ! 1 refl typed) $
    sets ! (of_opd ! (unit_lit !)) refl (tt, tt) $
    move ! (1 ∷ 0 ∷ []) $ use2 𝓛 (‵ (part_at R full_share made_taker b o)) (part_in 𝓛 R refl full_share made_taker b o v) $
    returns ! (look_at ! 0 refl) $ free_all ! refl $ keep ! (0 ∷ []) $
    suffices ! _ (ends_at 𝓛 f.ended stayed c (y (block_ptr b o)) vunit tt (tt, tt) (tt, tt)) $
    feq_i ! _ (vunit ∷ []) _ refl $ nothing ! $ nothing ! $ join ! $ nothing ! $ group ! 3 $ done !))))))))
