-- What is read from one item after another.
use Rattle.std.specs.Prelude.{List, [], ◌∷◌, ◌++◌, Result, Ok}
use Rattle.es_base.specs.Returns.{◌>>=◌}

-- what each of the items gives, each read after those before it, up to the first fault; `done` is what was read so far
abbrev pub collected : {X Y E : Type 0} → (List Y → X → Result Y E) → List Y → List X → Result (List Y) E
collected read done [] = Ok done
collected read done (item ∷ items) = do
  one ← read done item
  collected read (done ++ one ∷ []) items
