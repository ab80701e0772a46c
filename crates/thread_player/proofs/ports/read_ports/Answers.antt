use Rattle.std.proofs.Common.{◌≡◌, ◌∙◌, ◌++◌, ◌<◌, ◌≤◌, List, ℕ, [], ap, arith, drop, length, rules, sym, append-nil}
use Rattle.std.proofs.lemmas.List.{drop_all}
use Rattle.es_base.specs.Port.{Port}
use Rattle.es_base.proofs.Elements.{there}
use Rattle.output_lines.specs.Report.{ports_lines}
use Rattle.trace_player.proofs.Reports.{ports_go_on}
use Rattle.link_receiver.specs.Link.{all_deliveries_of}
use Rattle.thread_player.specs.Report.{lines_of_ports}
use Rattle.thread_player.proofs.Places.{as_many, end_at, item_there, one_less}
use Rattle.thread_player.proofs.Texts.{one_more}
use Rattle.thread_player.proofs.ports.read_ports.Goals as goal

pub read_port-requires : goal.read_port-requires
read_port-requires g c =
    let place = c.places.place in
    let low : place < length c.places.ends = search rules in
    rw (c.places.invariant.link, ← c.index-ends-place.is)
    (record { end = end_at c.args.link.now place c.args.ends.now c.places.ends c.index-ends-place.result c.requires.ends c.places.invariant.left (item_there c.places.ends place c.index-ends-place.result c.index-ends-place.is low) })

pub places-preserved : goal.places-preserved
places-preserved g c =
    let link = c.args.link.now in
    let place = c.places.place in
    let ports = link.settings.ports in
    let many = as_many 0 ports link.channels c.args.ends.now c.requires.ends in
    let test : place < length c.args.ends.now = search rules in
    let low : place < length ports = omega (arith, many, test) in
    let found = there ports place low in
    let so_far = c.places.ports.items in
    let messages = c.in_ok-messages.messages in
    let read = rw c.places.invariant.link at c.in_ok-messages.ensures.lines in
    record {
      link = c.read_port.ensures.link ∙ c.places.invariant.link;
      left = one_less place c.args.ends.now c.places.ends c.read_port.new.end c.places.invariant.left;
      ports = λ at.
          let grown = ap (lines_of_ports at) c.in_ok-push.ensures.items ∙ (one_more at so_far messages ∙ ap (λ (lines : List ℕ). lines_of_ports at so_far ++ lines) (read at found.0 found.1)) in
          ports_go_on at (all_deliveries_of link) place ports found.0 _ _ _ found.1 low grown (c.places.invariant.ports at);
    }

pub returns-clause-lines : goal.returns-clause-lines
returns-clause-lines g c = λ at.
    let link = c.args.link.now in
    let place = c.places.place in
    let ports = link.settings.ports in
    let many = as_many 0 ports link.channels c.args.ends.now c.requires.ends in
    let past : length c.args.ends.now ≤ place = search rules in
    let none : drop place ports ≡ [] = drop_all place ports (omega (arith, many, past)) in
    let lines = lines_of_ports at c.places.ports.items in
    sym (append-nil lines) ∙ (ap (λ (ps : List Port). lines ++ ports_lines at (all_deliveries_of link) place ps) (sym none) ∙ c.places.invariant.ports at)
