use Rattle.std.proofs.Common.{◌≡◌, ◌∙◌, ◌+◌, ◌++◌, [], ◌∷◌, ap, drop, get_or, refl, rules, sym}
use Rattle.es_base.proofs.Places.{link_numbers_push}
use Rattle.vl_config.specs.declared.rows.LinkRow.{LinkRow}
use Rattle.vl_config.proofs.Links.{none_distinct, count_push, names_push}
use Rattle.vl_config.proofs.PortNames.{of_one_more_link}
use Rattle.vl_config.proofs.RowByRow.{one_more_link}
use Rattle.vl_config.proofs.rows.links_of_rows.Goals as goal

-- what stands for a row past the end
abbrev no_row : LinkRow
no_row = record { vl = 0; redundancy = 0; skew_max = 0; reassembly = 0; window = 0; ports = 0 }

pub loop-row-init : goal.loop-row-init
loop-row-init c =
    let none : c.new-links.result ≡ [] = search rules in
    rw none (record { value = refl; few = refl; numbers = none_distinct _; distinct = none_distinct _; names = c.new-names.ensures })

pub loop-row-preserved : goal.loop-row-preserved
loop-row-preserved c =
    let done = c.loop-row.links in
    let link = c.in-Ok.link in
    let kept = c.loop-row.invariant in
    let pushed : c.push.new.self ≡ done ++ link ∷ [] = search rules in
    rw pushed (record {
      value = let next : c.rows_after-rest.result.now ≡ drop (get_or c.args.rows.now c.loop-row.row-index no_row).ports c.loop-row.rest.now = search rules in
          rw next (sym (one_more_link done c.loop-row.rest.now c.args.rows.now c.loop-row.row-index no_row link (search rules) (search rules)) ∙ kept.value);
      few = count_push done link ∙ ap (λ n. n + 1) kept.few;
      numbers = link_numbers_push done link kept.numbers (search rules);
      distinct = names_push done link (search rules);
      names = of_one_more_link c.link_of_row.new.names done link (search rules);
    })
