use Rattle.std.proofs.Common.{◌≡◌, ◌∙◌, ap, ◌+◌, [], ◌∷◌, ◌++◌, append_assoc, rules, subst, sym, take}
use Rattle.std.proofs.lemmas.List.{take_more}
use Rattle.vl_config.specs.Names.{AreNamesOf}
use Rattle.vl_config.proofs.names.Names.add_all.Goals as goal

pub loop-port-preserved : goal.loop-port-preserved
loop-port-preserved c = λ earlier known.
    let done = take c.loop-port.port-index c.args.ports.now in
    let port = c.port-item.result in
    let one_more : take (c.loop-port.port-index + 1) c.args.ports.now ≡ done ++ port ∷ []
    = take_more c.args.ports.now c.loop-port.port-index port (search rules) ∙ ap (λ p. done ++ p ∷ []) (sym c.port-item.is) in
    rw one_more (subst (AreNamesOf c.add.new.self) (append_assoc earlier done (port ∷ [])) (c.in_ok-add.ensures (earlier ++ done) (c.loop-port.invariant earlier known)))
