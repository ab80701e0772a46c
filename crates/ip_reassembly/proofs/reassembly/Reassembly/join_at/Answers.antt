use Rattle.std.proofs.Common.{◌<◌, length, slice_set, arith}
use Rattle.std.proofs.Math.Seq.{take-set-lt}
use Rattle.std.proofs.lemmas.List.{length-set, length-take}
use Rattle.ip_reassembly.proofs.Lists.{refill_whole, standing_at}
use Rattle.ip_reassembly.proofs.Stands.{stand_is, stand_set, joined_partial}
use Rattle.ip_reassembly.proofs.reassembly.Reassembly.join_at.Goals as goal

pub returns-clause-stand : goal.returns-clause-stand
returns-clause-stand c =
    let items = c.self.inside.partials.items in
    let less = rw (← c.self.view_is) at c.requires.place in
    let stands : c.args.place < c.self.inside.standing = omega (arith, less, length-take c.self.inside.standing items) in
    let there = standing_at items c.self.inside.standing _ _ less (rw c.deref_mut.ensures.value at c.index-deref_mut-place.is) in
    let whole = refill_whole (length items) items (slice_set items c.args.place c.join.new.self) (length-set items c.args.place c.join.new.self) in
    rw (← c.self.view_is, c.deref_mut.ensures.value) (λ groups group time stand at.
    let is = stand_is _ groups _ _ group stand there at in
    let old = rw c.index-deref_mut-place.is at is in
    let new = joined_partial _ c.join.new.self group _ old c.join.ensures.key c.join.ensures.begin (c.join.ensures.holds group.pieces time old.holds) in
    rw (whole, take-set-lt c.self.inside.standing items c.args.place c.join.new.self stands) (stand_set _ groups c.args.place c.join.new.self _ stand new))
