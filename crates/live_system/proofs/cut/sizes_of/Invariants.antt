use Rattle.std.proofs.Common.{◌≡◌, ◌⊎◌, ◌<◌, ◌≤◌, ◌+◌, ◌*◌, ℕ, length}
use Rattle.std.specs.List.{All, sum_by}
use Rattle.live_system.proofs.cut.sizes_of.Given as goal

-- the sizes so far; the first groups have one link more
abbrev pub invariant-groups : goal.invariant-groups
invariant-groups l = record {
  many : length l.sizes.items ≡ l.group;
  low : 0 < l.each;
  all : (extra : ℕ) × (sum_by (λ size. size) l.sizes.items ≡ l.group * l.each + extra) × (l.group ≤ l.greater → extra ≡ l.group) × (l.greater ≤ l.group → extra ≡ l.greater);
  some : All (λ size. 0 < size) l.sizes.items;
  even : All (λ size. (size ≡ l.each) ⊎ (size ≡ l.each + 1)) l.sizes.items;
}
