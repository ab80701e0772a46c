use Rattle.std.proofs.Common.{rules}
use Rattle.vl_config.proofs.Tables.{values_of_items}
use Rattle.vl_config.proofs.document.table.tables_in.Goals as goal

pub loop-item-init : goal.loop-item-init
loop-item-init c = rw (values_of_items c.args.items.now) (search rules)
