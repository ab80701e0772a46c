use Rattle.std.proofs.Common.{◌≡◌, ◌∙◌, ◌+◌, ◌++◌, [], ◌∷◌, ap, refl, rules, sym}
use Rattle.toml.specs.View.{table_view}
use Rattle.vl_config.specs.Link.{link_from}
use Rattle.vl_config.proofs.Collected.{one_more}
use Rattle.es_base.proofs.Places.{link_numbers_push}
use Rattle.vl_config.proofs.Links.{none_distinct, count_push, names_push}
use Rattle.vl_config.proofs.PortNames.{of_one_more_link}
use Rattle.vl_config.proofs.document.links_from.Goals as goal

pub loop-table-preserved : goal.loop-table-preserved
loop-table-preserved c =
    let done = c.loop-table.links in
    let link = c.in_ok-link.link in
    let kept = c.loop-table.invariant in
    let pushed : c.push.new.self ≡ done ++ link ∷ [] = search rules in
    rw pushed (record {
      value = sym (one_more link_from (λ table. table_view table.now) done c.args.tables.now c.loop-table.table-index c.table-item.result link
          (search rules) c.table-item.is (search rules)) ∙ kept.value;
      few = count_push done link ∙ ap (λ n. n + 1) kept.few;
      numbers = link_numbers_push done link kept.numbers (search rules);
      distinct = names_push done link (search rules);
      names = of_one_more_link c.link_from.new.names done link (search rules);
    })

pub loop-table-init : goal.loop-table-init
loop-table-init c =
    let none : c.new-links.result ≡ [] = search rules in
    rw none (record { value = refl; few = refl; numbers = none_distinct _; distinct = none_distinct _; names = c.new-names.ensures })
