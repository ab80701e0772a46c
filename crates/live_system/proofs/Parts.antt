-- A part of a list that was written anew.
use Rattle.std.proofs.Common.{◌≡◌, ◌∙◌, ap, arith, sym, ℕ, ◌+◌, ◌-◌, ◌≤◌, List, ◌++◌, drop, length, take}
use borrow.Rule.Slice.PartMut.{put_mid}
use Rattle.std.proofs.lemmas.List.{drop-drop}
use Rattle.std.proofs.lemmas.Slice.{drop-put_mid, take-put_mid}

-- the part between two places is written: as far as its end, and after it
module _ {X : Type 0} (done end : ℕ) (xs ys : List X) (up : done ≤ end) (low : done ≤ length xs) (many : length ys ≡ end - done) where
  pub part_written : take end (put_mid done (end - done) xs ys) ≡ take done xs ++ ys
  part_written = take-put_mid done (end - done) xs ys end (omega (arith, up, many)) low

  past : (zs : List X) → drop end zs ≡ drop (end - done) (drop done zs)
  past zs =
      let whole : end ≡ done + (end - done) = omega (arith, up) in
      ap (λ (n : ℕ). drop n zs) whole ∙ sym (drop-drop (end - done) done zs)

  pub rest_written : (zs : List X) → drop done xs ≡ drop done zs → drop end (put_mid done (end - done) xs ys) ≡ drop end zs
  rest_written zs same =
      drop-put_mid done (end - done) xs ys end (omega (arith, up)) low many
      ∙ (past xs ∙ (ap (drop (end - done)) same ∙ sym (past zs)))
