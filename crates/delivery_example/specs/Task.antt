-- The calls of the task.
use Rattle.std.specs.Prelude.{ℕ, List, [], ◌∷◌}
use Rattle.es_base.specs.declared.place.Net.TheVariants as nets
use Rattle.es_base.specs.Past.{arrived}
use Rattle.receiver.specs.declared.receiver.Reply.{Reply}
use Rattle.receiver.specs.Run.{Call, received}
use Rattle.delivery_example.specs.Example.{first_time_on_b, second_time_on_b, time_on_a}

-- the task gave these frames, one after another, and had these replies
abbrev pub calls_of_task : (on_a first_on_b second_on_b : List ℕ) (to_a first_to_b second_to_b : Reply) → List Call
calls_of_task on_a first_on_b second_on_b to_a first_to_b second_to_b =
    received (arrived nets.B second_time_on_b second_on_b) second_to_b ∷ received (arrived nets.B first_time_on_b first_on_b) first_to_b
    ∷ received (arrived nets.A time_on_a on_a) to_a
    ∷ []
