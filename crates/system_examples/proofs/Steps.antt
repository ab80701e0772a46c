-- The calls of each network among those of both.
use Rattle.std.proofs.Common.{◌≡◌, ap, refl, List, [], ◌∷◌, ◌++◌, map}
use Rattle.es_base.specs.declared.place.Net.TheVariants.{A, B}
use Rattle.network_calls.specs.Threads.{steps_of}
use Rattle.live_system.specs.Run.{Step}
use Rattle.system_examples.specs.Live.{on_b}

pub of_b : (steps : List Step) (one : Step) → steps_of B (map on_b steps ++ (A, one) ∷ []) ≡ steps
of_b [] one = refl
of_b (step ∷ steps) one = ap (λ (more : List Step). step ∷ more) (of_b steps one)

pub of_a : (steps : List Step) (one : Step) → steps_of A (map on_b steps ++ (A, one) ∷ []) ≡ one ∷ []
of_a [] one = refl
of_a (step ∷ steps) one = of_a steps one
