use Rattle.slot_core.proofs.Refusals.{allowed_if, passes_if}
use Rattle.slot_core.proofs.laws.a_step_is_allowed_or_refused.Goals as goal

pub returns : goal.returns
returns c = λ readers slots state event. (allowed_if readers slots state event, passes_if readers slots state event)
