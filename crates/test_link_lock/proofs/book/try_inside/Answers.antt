use Rattle.std.proofs.Common.{rules}
use Rattle.test_link_lock.proofs.Pages.{leaves_same}
use Rattle.test_link_lock.proofs.book.try_inside.Goals as goal

pub visit-requires-clause-keeps : goal.visit-requires-clause-keeps
visit-requires-clause-keeps g c lists found left answer finds did = leaves_same _ lists found finds left (search rules)
