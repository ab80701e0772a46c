use Rattle.std.proofs.Common.{◌≡◌, ◌∙◌, ◌++◌, [], ◌∷◌, rules, sym}
use Rattle.toml.specs.View.{table_view}
use Rattle.vl_config.proofs.Links.{names_push}
use Rattle.vl_config.proofs.Places.{after_link}
use Rattle.vl_config.proofs.PortNames.{of_one_more_link}
use Rattle.vl_config.proofs.document.place.link_place.Goals as goal

pub loop-table-preserved : goal.loop-table-preserved
loop-table-preserved c =
    let done = c.loop-table.links in
    let link = c.in-Ok.link in
    let kept = c.loop-table.invariant in
    let pushed : c.push.new.self ≡ done ++ link ∷ [] = search rules in
    rw pushed (record {
      value = sym (after_link (λ table. table_view table.now) done c.args.tables.now c.loop-table.table-index c.table-item.result link
          (search rules) c.table-item.is (search rules)) ∙ kept.value;
      distinct = names_push done link (search rules);
      names = of_one_more_link c.link_from.new.names done link (search rules);
    })
