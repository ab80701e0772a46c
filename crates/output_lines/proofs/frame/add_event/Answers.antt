use Rattle.std.proofs.Common.{◌≡◌, ◌++◌, ◌∷◌, [], List, ℕ, codes, refl, rules, append_assoc, arith}
use Rattle.std.specs.Fmt.{decimal}
use Rattle.std.proofs.lemmas.Grind.{common_steps}
use Rattle.es_base.specs.Word.{net_word}
use Rattle.output_lines.specs.FrameLine.{event_line}
use Rattle.output_lines.proofs.frame.add_event.Goals as goal
use Rattle.output_lines.proofs.frame.add_event.Goals.{in-A, in-B}

-- the words that were put one before the other, as the definition has them
in_order : (time net vl place verdict after : List ℕ) →
    time ++ ((codes " " ++ net ++ codes " vl ") ++ (vl ++ (codes " " ++ (place ++ (codes " " ++ (verdict ++ after))))))
    ≡ (time ++ codes " " ++ net ++ codes " vl " ++ vl ++ codes " " ++ place ++ codes " " ++ verdict) ++ after
in_order time net vl place verdict after = search (rules, append_assoc)

pub returns : goal.returns
returns c =
    let words : c.match-net.put_word.now ≡ codes " " ++ net_word c.args.net ++ codes " vl " =
    elim c.match-net.branch [ in-A w ↦ rw (w.put_word-is, w.in-A.is) refl | in-B w ↦ rw (w.put_word-is, w.in-B.is) refl ] in
    let whole : c.as_slice.result.now ≡ event_line c.args.ports.now c.args.time c.args.net c.args.vl c.args.place c.args.verdict =
    rw (c.as_slice.ensures, c.put_number-3.ensures.text, c.put_word-3.ensures.text, words, c.put_number-2.ensures.text, c.put_word-2.ensures.text, c.put_number.ensures.text, c.put_word.ensures.text, c.put_verdict.ensures.text, c.new-line.ensures)
    (in_order (decimal c.args.time) _ _ _ _ _) in
    grind (arith, common_steps, whole)
