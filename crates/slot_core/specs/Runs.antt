-- A list of events from the opening on.
use Rattle.std.specs.Prelude.{◌≡◌, ℕ, List, slice_get, take, Some}
use Rattle.slot_core.specs.declared.event.CoreEvent.{CoreEvent}
use Rattle.slot_core.specs.declared.event.StepRefusal.{StepRefusal}
use Rattle.slot_core.specs.State.{State, opening}
use Rattle.slot_core.specs.Steps.{after_all}
use Rattle.slot_core.specs.Allowed.{AreAllowed}
use Rattle.slot_core.specs.Refusal.{IsRefusedBy}

-- all events are allowed, each after those before it, and lead from the opening to this state
abbrev pub LeadTo : ℕ → ℕ → List CoreEvent → State → Type 0
LeadTo readers slots events c = AreAllowed readers slots (opening readers slots) events × (c ≡ after_all readers (opening readers slots) events)

-- the event at this place is the first that is refused, and this is why
-- rule: SAMP-17
abbrev pub IsFirstRefused : ℕ → ℕ → List CoreEvent → ℕ → StepRefusal → Type 0
IsFirstRefused readers slots events place refusal =
    (event : CoreEvent) × (slice_get events place ≡ Some event) × (AreAllowed readers slots (opening readers slots) (take place events))
    × (IsRefusedBy readers slots (after_all readers (opening readers slots) (take place events)) event refusal)
