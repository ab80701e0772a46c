use Rattle.std.proofs.Common.{◌≡◌, ◌+◌, ◌∙◌, ap, arith}
use Rattle.std.proofs.Math.Nat.{add-mod_right}
use Rattle.message_ring.specs.Rule.{slot_for}
use Rattle.message_ring.proofs.slot_with_start.Goals as goal
use Rattle.message_ring.proofs.slot_with_start.Goals.{then-old-new, else-old-new}

pub returns : goal.returns
returns c number is =
    let depth = c.args.depth in
    let on = c.if-old-new.on in
    let first = c.slot_after.ensures (c.args.old + number) is in
    elim c.if-old-new.branch [
      | then-old-new w ↦ let same : c.args.old + number + on ≡ c.args.new + number = omega (arith, w.on-is, w.if-old-new.true) in first ∙ ap (slot_for depth) same
      | else-old-new w ↦ let around : c.args.old + number + on ≡ c.args.new + number + depth = omega (arith, w.on-is, w.if-old-new.false, c.requires) in first ∙ ap (slot_for depth) around ∙ add-mod_right (c.args.new + number) depth
    ]
