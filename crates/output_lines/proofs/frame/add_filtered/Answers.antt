use Rattle.std.proofs.Common.{◌≡◌, ◌++◌, ◌∷◌, [], List, ℕ, codes, rules, append_assoc, arith}
use Rattle.std.specs.Fmt.{decimal}
use Rattle.std.proofs.lemmas.Grind.{common_steps}
use Rattle.output_lines.specs.FrameLine.{filtered_line}
use Rattle.output_lines.proofs.frame.add_filtered.Goals as goal

-- the words that were put one before the other, as the definition has them
in_order : (time net cause after : List ℕ) →
    time ++ (codes " " ++ (net ++ (codes " filtered " ++ (cause ++ after)))) ≡ (time ++ codes " " ++ net ++ codes " filtered " ++ cause) ++ after
in_order time net cause after = search (rules, append_assoc)

pub returns : goal.returns
returns c =
    let whole : c.as_slice.result.now ≡ filtered_line c.args.time c.args.net c.args.cause =
    rw (c.as_slice.ensures, c.put_number.ensures.text, c.put_word-4.ensures.text, c.put_word-3.ensures.text, c.word-2.ensures.text, c.put_word-2.ensures.text, c.put_word.ensures.text, c.word.ensures.text, c.new-line.ensures)
    (in_order (decimal c.args.time) _ _ _) in
    grind (arith, common_steps, whole)
