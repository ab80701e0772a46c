use Rattle.std.proofs.Common.{◌≡◌, length, take}
use Rattle.live_system.specs.Burst.{most_in_row}
use Rattle.live_system.specs.Checked.{TestsEach}
use Rattle.live_system.specs.Rows.{index_at}
use Rattle.live_system.proofs.row.test_each.Given as goal

-- the frames so far are tested and noted
abbrev pub invariant-frames : goal.invariant-frames
invariant-frames l = record {
  room : length l.passed ≡ most_in_row;
  many : length l.checks.items ≡ length l.fn.checks.items;
  told : TestsEach (index_at l.places) l.fn.checks.items (take l.place l.row) (take l.place l.passed) l.checks.items;
}
