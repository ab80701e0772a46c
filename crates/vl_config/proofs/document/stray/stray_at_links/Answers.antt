use Rattle.std.proofs.Common.{◌∙◌, None, Some, rules, sym}
use Rattle.toml.specs.View.{table_view}
use Rattle.vl_config.proofs.Strays.{at_link}
use Rattle.vl_config.proofs.document.stray.stray_at_links.Goals as goal

pub returns-in-Some : goal.returns-in-Some
returns-in-Some c =
    sym (at_link (λ table. table_view table.now) c.args.tables.now c.loop-link.link c.index-tables-link.result (Some c.in-Some.place)
    (search rules) c.index-tables-link.is (search rules)) ∙ c.loop-link.invariant

pub loop-link-preserved : goal.loop-link-preserved
loop-link-preserved c =
    sym (at_link (λ table. table_view table.now) c.args.tables.now c.loop-link.link c.index-tables-link.result None
    (search rules) c.index-tables-link.is (search rules)) ∙ c.loop-link.invariant
