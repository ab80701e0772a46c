-- The word of a phase that is known.
use Rattle.std.proofs.Common.{◌≡◌, ℕ, refl, sym, subst}
use Rattle.slot_core.specs.declared.view.Phase.{Phase}
use Rattle.slot_core.specs.declared.view.Phase.TheVariants.{Loaded, Announced, Holding}
use Rattle.slot_core.specs.State.{HasWord}

module _ (phase : Phase) (word : ℕ) where
  pub at_loaded : phase ≡ Loaded word → HasWord phase word
  at_loaded e = subst (λ (p : Phase). HasWord p word) (sym e) refl

  pub at_announced : phase ≡ Announced word → HasWord phase word
  at_announced e = subst (λ (p : Phase). HasWord p word) (sym e) refl

  pub at_holding : phase ≡ Holding word → HasWord phase word
  at_holding e = subst (λ (p : Phase). HasWord p word) (sym e) refl
