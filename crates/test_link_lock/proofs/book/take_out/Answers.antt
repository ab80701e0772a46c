use Rattle.std.proofs.Common.{rules}
use Rattle.test_link_lock.proofs.Pages.{leaves_empty}
use Rattle.test_link_lock.proofs.book.take_out.Goals as goal

pub visit-requires-clause-keeps : goal.visit-requires-clause-keeps
visit-requires-clause-keeps g c lists found left answer finds did = leaves_empty _ lists found finds left (search rules)
