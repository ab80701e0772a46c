use Rattle.std.proofs.Common.{◌≡◌, ◌∙◌, ◌+◌, ◌∷◌, ◌++◌, [], ap, sym, take}
use Rattle.std.proofs.lemmas.List.{take_more}
use Rattle.live_system.proofs.Checks.{new_checks_push}
use Rattle.live_system.proofs.opened_group.new_checks.Goals as goal

pub links-preserved : goal.links-preserved
links-preserved c =
    let links = c.args.links.now in
    let place = c.links.settings-index in
    let settings = c.settings-item.result in
    let longer : take (place + 1) links ≡ take place links ++ settings ∷ [] = take_more links place settings c.links-test.true ∙ ap (λ s. take place links ++ s ∷ []) (sym c.settings-item.is) in
    rw (longer, c.in_ok-push.ensures.items) (new_checks_push (take place links) c.links.checks.items settings c.new.result c.links.invariant (rw c.window.ensures.value at c.new.ensures.sequence, c.new.ensures.latest))
