use Rattle.std.proofs.Common.{◌≡◌, List, drop, length, map, take}
use Rattle.link_core.specs.declared.net_checks.NetChecks.{NetChecks}
use Rattle.live_system.specs.Calls.{LiveLink}
use Rattle.live_system.specs.Burst.{most_in_row}
use Rattle.live_system.specs.Checked.{AreStanding, TestsEach}
use Rattle.live_system.specs.Rows.{TookEach, index_at}
use Rattle.live_system.proofs.row.take_each.Given as goal

-- the frames so far are taken, by the same links, and the others were tested by what stands for the links now
abbrev pub invariant-frames : goal.invariant-frames
invariant-frames l = record {
  room : length l.answers ≡ most_in_row;
  same : map (λ (link : LiveLink). link.core.settings) l.group ≡ map (λ (link : LiveLink). link.core.settings) l.fn.group;
  took : TookEach (index_at l.places) l.net l.fn.group (take l.place l.row) (take l.place l.answers) l.group;
  tested : (checks : List NetChecks) × (news : List NetChecks) × AreStanding l.net l.group checks × TestsEach (index_at l.places) checks (drop l.place l.row) (drop l.place (take (length l.row) l.passed)) news;
}
