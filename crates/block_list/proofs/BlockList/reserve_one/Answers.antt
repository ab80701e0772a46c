use Rattle.std.proofs.Common.{◌≡◌, ◌<◌, [], ◌∷◌, ◌++◌, length, ap, rules}
use Rattle.std.specs.Vec.{vec_capacity}
use Rattle.block_list.proofs.Blocks.{few_before, few_entries, on_ok, on_ok_by, one_more_block}
use Rattle.block_list.proofs.BlockList.reserve_one.Goals as goal

pub returns-then-room-gt0-clause-few : goal.returns-then-room-gt0-clause-few
returns-then-room-gt0-clause-few g c =
    let full = c.self.inside.full in
    let last = c.self.inside.last in
    let items = ap (λ v. v.items) c.self.view_is in
    let room = ap (λ v. v.room) c.self.view_is in
    let short : length last.items < 1024 = search rules in
    rw (← items) (few_entries (λ b. b.items) full.items last.items c.self.invariant.0.0 c.self.invariant.0.1 short)

pub returns-then-is_empty-clause-few : goal.returns-then-is_empty-clause-few
returns-then-is_empty-clause-few g c =
    let full = c.self.inside.full in
    let last = c.self.inside.last in
    let short : length last.items < 1024 = search rules in
    on_ok c.reserve_exact.result (rw c.reserve_exact.ensures.items (few_entries (λ b. b.items) full.items last.items c.self.invariant.0.0 c.self.invariant.0.1 short))

pub returns-clause-few : goal.returns-clause-few
returns-clause-few g c =
    let full = c.self.inside.full in
    let last = c.self.inside.last in
    let new = c.add_block.new in
    let few : length full.items < 9007199254740991 = search rules in
    on_ok_by {P = new.full.items ≡ full.items ++ last ∷ []} {Q = (new.last.items ≡ []) × (vec_capacity new.last ≡ 1024)} c.add_block.result c.add_block.ensures.before c.add_block.ensures.last
    (λ before empty. rw (before, empty.0, one_more_block (λ b. b.items) full.items last) (few_before (λ b. b.items) full.items last.items c.self.invariant.0.0 few c.self.invariant.1.0))
