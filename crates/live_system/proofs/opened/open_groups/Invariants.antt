use Rattle.std.proofs.Common.{◌≡◌, List, length, take}
use Rattle.std.specs.List.{All, sum_by}
use Rattle.es_base.specs.declared.place.Net.TheVariants.{A, B}
use Rattle.receiver.specs.Outlet.{reads_by}
use Rattle.receiver.specs.Port.{ReadsPort, ShowsPort}
use Rattle.receiver.specs.Receiver.{AreNewLinks}
use Rattle.network_calls.specs.Passes.{AreIdle, ArePasses}
use Rattle.live_system.specs.Calls.{LiveLink}
use Rattle.live_system.specs.Groups.{IsGroup, ids_in, links_of_groups}
use Rattle.live_system.specs.System.{KnowLinks, keeping_no_frame}
use Rattle.live_system.proofs.opened.open_groups.Given as goal

-- those of the links so far
abbrev pub invariant-groups : goal.invariant-groups
invariant-groups g l = record {
  first : l.first ≡ sum_by (λ size. size) (take l.group l.sizes);
  locks : length l.opened.locks.items ≡ l.group;
  a : ArePasses keeping_no_frame A (ids_in (take l.group l.sizes) l.opened.locks.items) (take l.first l.links) (links_of_groups l.opened.a.items) × AreIdle keeping_no_frame (links_of_groups l.opened.a.items) × All IsGroup l.opened.a.items;
  b : ArePasses keeping_no_frame B (ids_in (take l.group l.sizes) l.opened.locks.items) (take l.first l.links) (links_of_groups l.opened.b.items) × AreIdle keeping_no_frame (links_of_groups l.opened.b.items) × All IsGroup l.opened.b.items;
  links : (opened : List LiveLink) × AreNewLinks ShowsPort (reads_by ReadsPort (g.R.Readers.count l.readers)) (take l.first l.links) opened l.opened.ends.items × KnowLinks (links_of_groups l.opened.a.items) opened × KnowLinks (links_of_groups l.opened.b.items) opened;
}
