use Rattle.std.proofs.Common.{rules, ◌≡◌, [], ◌∷◌, ap, ◌∙◌}
use Rattle.atomic_table.specs.Table.{rest}
use Rattle.link_lock.proofs.lock.Lock.work_on.Goals as goal

pub returns-clause-worked : goal.returns-clause-worked
returns-clause-worked g c =
    let alone : rest c.args.right.now.me.1 ≡ [] = ap rest c.requires.held.1 in
    record {
      found = c.slot_mut.result.now;
      left = c.work.new.arg2;
      carried = c.slot_mut.ensures.value ∙ ap (λ others. (0, c.slot_mut.result.now) ∷ others) alone;
      now = ap (λ others. (c.args.right.now.me.0, (0, c.work.new.arg2) ∷ others)) alone;
      does = search rules;
    }
