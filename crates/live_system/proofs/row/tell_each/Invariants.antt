use Rattle.std.proofs.Common.{◌≡◌, length, take}
use Rattle.live_system.specs.Rows.{CountsEach, index_at}
use Rattle.live_system.proofs.row.tell_each.Given as goal

-- the answers so far are counted, and replied
abbrev pub invariant-frames : goal.invariant-frames
invariant-frames l = record {
  many : length l.counts.items ≡ length l.fn.counts.items;
  room : length l.replies ≡ length l.row;
  told : CountsEach (index_at l.places) l.net l.fn.counts.items (take l.place l.row) (take l.place l.answers) (take l.place l.replies) l.counts.items;
}
