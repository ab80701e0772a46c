use Rattle.std.proofs.Common.{rules}
use Rattle.test_link_lock.proofs.Pages.{leaves_written}
use Rattle.test_link_lock.proofs.book.try_write.Goals as goal

pub try_visit-requires-clause-keeps : goal.try_visit-requires-clause-keeps
try_visit-requires-clause-keeps c lists found left answer finds did = leaves_written _ lists found finds c.args.number left answer (search rules) (search rules)
