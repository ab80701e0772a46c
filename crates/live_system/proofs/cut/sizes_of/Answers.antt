use Rattle.std.proofs.Common.{◌≡◌, ◌<◌, ◌∙◌, ◌+◌, ◌*◌, ◌/◌, ◌%◌, arith, rules}
use Rattle.std.proofs.Math.Nat.{div-add-mod, mod-lt}
use Rattle.live_system.proofs.cut.sizes_of.Goals as goal

pub returns : goal.returns
returns c =
    let links = c.args.links in
    let many = c.min-many.result in
    let so_far = c.groups.invariant in
    let all_done : c.groups.group ≡ many = search rules in
    let some : 0 < many = search rules in
    let extra : so_far.all.0 ≡ links % many = so_far.all.3 (omega (arith, all_done, mod-lt links some)) in
    record {
      many = so_far.many ∙ (all_done ∙ search rules);
      all = so_far.all.1 ∙ ((λ i. all_done i * (links / many) + extra i) ∙ div-add-mod links many);
      some = so_far.some;
      even = (links / many, so_far.even);
    }
