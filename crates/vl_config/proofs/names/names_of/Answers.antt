use Rattle.std.proofs.Common.{◌≡◌, ◌∙◌, ap, ◌+◌, [], ◌∷◌, ◌++◌, rules, sym, take}
use Rattle.std.proofs.lemmas.List.{take_more}
use Rattle.es_base.specs.Config.{ports_in}
use Rattle.vl_config.proofs.Links.{ports_push}
use Rattle.vl_config.proofs.names.names_of.Goals as goal

pub loop-link-preserved : goal.loop-link-preserved
loop-link-preserved c =
    let done = take c.loop-link.link-index c.args.links.now in
    let link = c.link-item.result in
    let one_more : take (c.loop-link.link-index + 1) c.args.links.now ≡ done ++ link ∷ []
    = take_more c.args.links.now c.loop-link.link-index link (search rules) ∙ ap (λ l. done ++ l ∷ []) (sym c.link-item.is) in
    let lent : c.ports.result.now ≡ link.ports = search rules in
    rw (one_more, ports_push done link, ← lent) (c.in_ok-add_all.ensures (ports_in done) c.loop-link.invariant)
