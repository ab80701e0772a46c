use Rattle.std.proofs.Common.{◌≡◌, ◌∙◌, ap, sym, List, [], ◌∷◌, ℕ, get_or, Option, Some}
use Rattle.atomic_table.specs.Table.{rest}
use Rattle.triple_buffer.specs.declared.latest.Latest.{Latest}
use Rattle.triple_buffer.proofs.Ends.{there}
use Rattle.triple_buffer.proofs.steps.Buffers.fill.Goals as goal

pub slot_mut-requires : goal.slot_mut-requires
slot_mut-requires c = let t = c.requires.has in (c.requires.table, (Some t.0, there _ _ _ t.1))

pub fill_place-requires : goal.fill_place-requires
fill_place-requires c = let t = c.requires.has in
    (t.0, ap (λ (l : List (ℕ × Option Latest)). (get_or l 0 (0, Some t.0)).1) (sym c.slot_mut.ensures.value ∙ t.1), t.2)

pub returns-clause-filled : goal.returns-clause-filled
returns-clause-filled c =
    let none : rest c.args.right.now.me.1 ≡ [] = ap rest c.requires.has.1 in (
      c.slot_mut.result.now,
      c.fill_place.new.place,
      c.slot_mut.ensures.value ∙ ap (λ (l : List (ℕ × Option Latest)). (c.args.slot, c.slot_mut.result.now) ∷ l) none,
      ap (λ (l : List (ℕ × Option Latest)). (c.args.slot, c.fill_place.new.place) ∷ l) none,
      c.fill_place.ensures,
    )
