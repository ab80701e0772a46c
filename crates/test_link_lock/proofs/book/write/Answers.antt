use Rattle.std.proofs.Common.{rules}
use Rattle.test_link_lock.proofs.Pages.{leaves_written}
use Rattle.test_link_lock.proofs.book.write.Goals as goal

pub visit-requires-clause-keeps : goal.visit-requires-clause-keeps
visit-requires-clause-keeps g c lists found left answer finds did = leaves_written _ lists found finds c.args.number left answer (search rules) (search rules)
