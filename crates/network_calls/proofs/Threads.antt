-- The calls of two threads, in whatever order they came.
use Rattle.std.proofs.Common.{◌≡◌, true, false, List, [], ◌∷◌, refl, subst, sym}
use Rattle.es_base.specs.declared.place.Net.{Net}
use Rattle.es_base.specs.declared.place.Net.TheVariants.{A, B}
use Rattle.es_base.specs.Networks.{is_same_net}
use Rattle.network_calls.specs.Passes.{KnownNet}
use Rattle.network_calls.specs.Threads.{BothPasses, HoldsOfEach, MakesBy, RanAloneBy, RanBy, steps_of}

-- what is known of each network's pass after some calls of both
pub record BothKnow {K S : Type 0} (Knows : KnownNet K → Net → List (Net × S) → KnownNet K → Type 0) (first : BothPasses K) (steps : List (Net × S)) (now : BothPasses K) : Type 0 where
  pub a : Knows first.a A steps now.a
  pub b : Knows first.b B steps now.b

module _ {K S : Type 0} (IsOwn : KnownNet K → Type 0) (Does : S → KnownNet K → KnownNet K → Type 0) where
  pub together : (first last : BothPasses K) (steps : List (Net × S)) → RanAloneBy IsOwn Does first.a (steps_of A steps) last.a → RanAloneBy IsOwn Does first.b (steps_of B steps) last.b
      → RanBy IsOwn Does first steps last
  together first last [] a b = (λ i. record { a = a i; b = b i })
  together first last ((A, step) ∷ steps) a b =
      let before : BothPasses K = record { a = a.0; b = last.b } in
      (before, together first before steps a.1 b, record { own = a.2; of_net = a.3; does = a.4; other = refl })
  together first last ((B, step) ∷ steps) a b =
      let before : BothPasses K = record { a = last.a; b = b.0 } in
      (before, together first before steps a b.1, record { own = b.2; of_net = b.3; does = b.4; other = refl })

  -- what holds of a call that was made holds of each of these
  pub each_call : (holds : S → Type 0) → ((step : S) (old new : KnownNet K) → Does step old new → holds step) → (first last : BothPasses K) (steps : List (Net × S)) → RanBy IsOwn Does first steps last → HoldsOfEach holds steps
  each_call holds one first last [] ran = tt
  each_call holds one first last (step ∷ steps) ran = (one step.1 _ _ ran.2.does, each_call holds one first ran.0 steps ran.1)

  -- a call of a network adds to what is known of its pass
  abbrev KnowsMore : (KnownNet K → Net → List (Net × S) → KnownNet K → Type 0) → Type 0
  KnowsMore Knows = (first : KnownNet K) (net : Net) (one : Net × S) (steps : List (Net × S)) (old new : KnownNet K) → is_same_net one.0 net ≡ true → IsOwn new → new.net ≡ old.net → Does one.1 old new
      → Knows first net steps old → Knows first net (one ∷ steps) new

  -- and leaves what is known of the other one
  abbrev KnowsStill : (KnownNet K → Net → List (Net × S) → KnownNet K → Type 0) → Type 0
  KnowsStill Knows = (first : KnownNet K) (net : Net) (one : Net × S) (steps : List (Net × S)) (now : KnownNet K) → is_same_net one.0 net ≡ false → Knows first net steps now → Knows first net (one ∷ steps) now

  module _ (Knows : KnownNet K → Net → List (Net × S) → KnownNet K → Type 0) (more : KnowsMore Knows) (still : KnowsStill Knows) where
    both_know_more : (first : BothPasses K) (net : Net) (step : S) (steps : List (Net × S)) (old new : BothPasses K) → MakesBy IsOwn Does net step old new
        → BothKnow Knows first steps old → BothKnow Knows first ((net, step) ∷ steps) new
    both_know_more first A step steps old new makes know = record {
      a = more first.a A (A, step) steps old.a new.a refl makes.own makes.of_net makes.does know.a;
      b = subst (Knows first.b B ((A, step) ∷ steps)) (sym makes.other) (still first.b B (A, step) steps old.b refl know.b);
    }
    both_know_more first B step steps old new makes know = record {
      a = subst (Knows first.a A ((B, step) ∷ steps)) (sym makes.other) (still first.a A (B, step) steps old.a refl know.a);
      b = more first.b B (B, step) steps old.b new.b refl makes.own makes.of_net makes.does know.b;
    }

    -- what is known of both after no call, they know after all
    pub both_know : (first last : BothPasses K) (steps : List (Net × S)) → BothKnow Knows first [] first → RanBy IsOwn Does first steps last → BothKnow Knows first steps last
    both_know first last [] none ran = rw ran none
    both_know first last (one ∷ steps) none ran = both_know_more first one.0 one.1 steps ran.0 last ran.2 (both_know first ran.0 steps none ran.1)
