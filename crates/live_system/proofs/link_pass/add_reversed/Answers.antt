use Rattle.std.proofs.Common.{[], ◌∷◌, append-nil, refl, rules, sym}
use Rattle.live_system.proofs.GroupEnds.{moved}
use Rattle.live_system.proofs.link_pass.add_reversed.Goals as goal

pub items-init : goal.items-init
items-init g c = record { so_far = ([], append-nil c.args.from.items, sym (append-nil c.args.to.now.items)); room = c.requires; same = refl }

pub items-preserved : goal.items-preserved
items-preserved g c =
    let was = c.items.invariant in
    let more = moved c.items.from.items c.pop.new.self.items c.items.to.items was.so_far.0 c.in-Some.item c.in-Some.ensures.items c.args.from.items was.so_far.1 c.args.to.now.items was.so_far.2 in
    record {
      so_far = (c.in-Some.item ∷ was.so_far.0, more.0, rw c.push_reserved.ensures.items more.1);
      room = search rules;
      same = search rules;
    }
