use Rattle.std.proofs.Common.{◌∙◌, ap, sym, length, refl, arith}
use Rattle.std.proofs.lemmas.Option.{slice_get_read}
use Rattle.ip_reassembly.specs.Kept.{Kept}
use Rattle.ip_reassembly.proofs.Lists.{refill_whole}
use Rattle.ip_reassembly.proofs.Stands.{stand_is, stand_remove}
use Rattle.ip_reassembly.proofs.reassembly.Reassembly.take_out.Goals as goal

pub returns : goal.returns
returns c =
    let lent = ap length c.deref_mut.ensures.value in
    let same = refill_whole (length c.self.inside.partials.items) c.self.inside.partials.items c.move_to_end.new.partials (omega (arith, lent)) in
    let limit = ap (λ (k : Kept). k.limit) c.self.view_is in
    let given_up = ap (λ (k : Kept). k.given_up) c.self.view_is in
    let read = rw (c.deref.ensures.0, same) at c.index-deref-self.is in
    let last = slice_get_read c.move_to_end.new.partials (length c.move_to_end.new.partials) _ c.index-deref-self.result refl (omega (arith, lent)) read in
    let there = sym (rw c.deref_mut.ensures.value at c.move_to_end.ensures.last) ∙ last in (
      (
        refl,
        (λ _. tt),
        (limit, given_up, rw (← c.self.view_is, same, c.move_to_end.ensures.others, c.deref_mut.ensures.value) (λ groups stand. stand_remove _ groups _ stand)),
      ),
      record {
        octets = rw (← c.self.view_is) (λ groups group d stand at made long.
            let partial = rw c.index-deref-self.is at (stand_is _ groups _ _ group stand there at) in
            c.octets.ensures group.pieces d partial.holds made long);
        after = tt;
      },
    )
