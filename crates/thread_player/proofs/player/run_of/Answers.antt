use Rattle.std.proofs.Common.{◌≡◌, ◌∙◌, ◌++◌, ℕ, List, ap, drop, length, rules, sym, take}
use Rattle.std.specs.Option.{unwrap_or}
use Rattle.es_base.specs.declared.place.Net.TheVariants.{A}
use Rattle.link_receiver.specs.Link.{Link}
use Rattle.thread_player.specs.Report.{filtered_in, ports_of_links, report_on}
use Rattle.thread_player.specs.Run.{report_time}
use Rattle.thread_player.proofs.Settled.{fed_alike, same_report, time_is, unread_after}
use Rattle.thread_player.proofs.Texts.{whole_again}
use Rattle.thread_player.proofs.player.run_of.Goals as goal

-- the links whose ports were read are as they were
links_left : (len : ℕ) (links after : List Link) → length links ≡ len → after ≡ links → take len (after ++ drop (length after) links) ≡ links
links_left len links after many same = rw same (whole_again len links many)

pub read_all_ports-requires : goal.read_all_ports-requires
read_all_ports-requires g c =
    let opened = c.in_ok-system.ensures in
    let fed_a = rw c.in_ok-a.was at c.feed_both-a.ensures.a in
    let alike_a = fed_alike c.args.config.now A c.args.frames_a c.in_ok-system.field-0.a c.in_ok-a.a.lines.items c.in_ok-a.a.pass fed_a.2.feeds in
    rw (c.deref_mut.ensures.value, c.deref_mut-2.ensures.value) (unread_after _ _ _ _ _ _ c.settle-settled.ensures.links alike_a opened.ends)

pub returns-clause-text : goal.returns-clause-text
returns-clause-text g c = λ at.
    let opened = c.in_ok-system.ensures in
    let fed_a = rw c.in_ok-a.was at c.feed_both-a.ensures.a in
    let fed_b = rw c.in_ok-b.was at c.feed_both-a.ensures.b in
    let settled = c.settle-settled.result in
    let links = settled.links.items in
    let counted = c.settle-settled.ensures in
    let lines_a = c.in_ok-a.a.lines.items in
    let lines_b = c.in_ok-b.b.lines.items in
    let filtered = filtered_in settled.a settled.b in
    let time = time_is at c.args.frames_a c.args.frames_b c.in_ok-a.a.latest c.in_ok-b.b.latest c.max-latest.result fed_a.2.latest fed_b.2.latest c.max-latest.ensures in
    let left = links_left settled.links.len links c.read_all_ports.new.links (search rules) (c.in_ok-ports.ensures.links ∙ c.deref_mut.ensures.value) in
    record {
      system = c.in_ok-system.field-0.system;
      config = opened.config;
      begun_a = c.in_ok-system.field-0.a;
      begun_b = c.in_ok-system.field-0.b;
      new_a = opened.a;
      new_b = opened.b;
      lines_a = lines_a;
      lines_b = lines_b;
      left_a = c.in_ok-a.a.pass;
      left_b = c.in_ok-b.b.pass;
      fed_a = fed_a.2.feeds;
      fed_b = fed_b.2.feeds;
      links = links;
      settled = rw opened.config at counted.links;
      is = ap (λ (links : List Link). c.extend_from_slice.new.self.items ++ report_on (unwrap_or at c.max-latest.result) links filtered) left
          ∙ ap (λ (text : List ℕ). text ++ report_on (unwrap_or at c.max-latest.result) links filtered) (c.in_ok-extend_from_slice.ensures.items ∙ ap (λ (text : List ℕ). lines_a ++ text) c.deref.ensures.value)
          ∙ ap (λ (text : List ℕ). (lines_a ++ lines_b) ++ text)
          (ap (λ (at : ℕ). report_on at links filtered) time ∙ same_report (report_time at c.args.frames_a c.args.frames_b) links _ _ _ _ counted.a counted.b);
    }

pub returns-clause-ports : goal.returns-clause-ports
returns-clause-ports g c = λ at.
    let links = c.settle-settled.result.links in
    let left = links_left links.len links.items c.read_all_ports.new.links (search rules) (c.in_ok-ports.ensures.links ∙ c.deref_mut.ensures.value) in
    c.in_ok-ports.ensures.lines at ∙ ap (ports_of_links at) (c.deref_mut.ensures.value ∙ sym left)
