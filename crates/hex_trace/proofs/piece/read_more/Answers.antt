use Rattle.std.proofs.Common.{◌≡◌, ◌∙◌, ◌+◌, ◌≤◌, ◌<◌, ◌++◌, length, take, drop, ap, sym, refl, rules, arith}
use Rattle.std.proofs.lemmas.List.{length-drop}
use Rattle.hex_trace.proofs.Pieces.{put_back, take-add}
use Rattle.hex_trace.proofs.piece.read_more.Goals as goal

pub returns-in-Ok-clause-bytes : goal.returns-in-Ok-clause-bytes
returns-in-Ok-clause-bytes g c =
    let filled = c.args.filled in
    let count = c.in-Ok.count in
    let new = c.read_after.new.text in
    let lent = c.deref_mut.ensures.value in
    let whole : length new ≡ length c.make_room.new.text.items = c.in-Ok.ensures.whole ∙ ap length lent in
    let front : take filled new ≡ take filled c.args.text.now.items = c.in-Ok.ensures.front ∙ ap (take filled) lent ∙ c.in_ok-make_room.ensures.front in
    let back = put_back c.make_room.new.text.len c.make_room.new.text.items new (search rules) whole in
    let within : filled ≤ length new = search rules in
    let left : 0 < length (drop filled new) = omega (arith, length-drop filled new, whole, c.in_ok-make_room.ensures.room) in
    let joined : take (filled + count) new ≡ take filled c.args.text.now.items ++ take count (drop filled new) =
    sym (take-add filled count new within) ∙ ap (λ bs. bs ++ take count (drop filled new)) front in
    (search rules, (take count (drop filled new), c.in-Ok.ensures.bytes.0, ap (take (filled + count)) back ∙ joined, λ none. (ap (λ n. take n (drop filled new)) none ∙ refl, c.in-Ok.ensures.bytes.1 none left)))

pub returns-in-Err-clause-bytes : goal.returns-in-Err-clause-bytes
returns-in-Err-clause-bytes g c = search rules
