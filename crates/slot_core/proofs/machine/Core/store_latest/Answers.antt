use Rattle.std.proofs.Common.{◌≡◌, ◌+◌, ◌++◌, ◌∷◌, [], ◌∙◌, List, ℕ, ap, arith, length, refl, set}
use Rattle.slot_core.specs.declared.machine.Core.TheInside.{Inside}
use Rattle.slot_core.specs.Words.{word_for}
use Rattle.slot_core.proofs.Fields.{publish_is}
use Rattle.slot_core.proofs.machine.Core.store_latest.Goals as goal

pub returns-clause-ok : goal.returns-clause-ok
returns-clause-ok c =
    let f = c.self.inside in
    let message : c.in_ok-message.message ≡ f.stored.items = c.in_ok-message.ensures ∙ c.as_slice.ensures.value in
    let items : c.push.new.self.items ≡ f.published.items ++ f.stored.items ∷ [] =
    c.in_ok-push.ensures.items ∙ ap (λ (m : List ℕ). f.published.items ++ m ∷ []) message in
    let n : c.len.result ≡ length f.published.items + 1 = omega (arith, c.len.ensures, c.in_ok-push.ensures.len, f.published.ok.0) in
    let g : Inside = record f { words = set f.words 0 c.word_for.result; scanned = c.begin_anew.new.scanned; stored = c.begin_anew.new.stored; published = c.push.new.self } in
    rw (← c.self.view_is)
    (publish_is f g c.self.invariant (ap (λ x. set f.words 0 x) (c.word_for.ensures ∙ ap (λ k. word_for k f.chosen) n))
    c.begin_anew.ensures.scanned refl c.begin_anew.ensures.stored items refl)
