use Rattle.std.proofs.Common.{◌≡◌, ◌≤◌, arith, sym, refl, rules, length, take, List}
use Rattle.std.proofs.lemmas.List.{length-take-le}
use Rattle.es_base.specs.declared.place.Net.{Net}
use Rattle.es_base.specs.declared.place.Net.TheVariants.{A, B}
use Rattle.mailbox_port.specs.Port.{most_readers}
use Rattle.receiver.specs.declared.ends.LinkEnds.{LinkEnds}
use Rattle.receiver.specs.declared.partition.PartitionEnd.{PartitionEnd}
use Rattle.network_calls.specs.Threads.{BothPasses, steps_of}
use Rattle.network_calls.proofs.Threads.{together}
use Rattle.live_system.specs.Burst.{steps_in_turn}
use Rattle.network_calls.specs.Ended.{HasSettled}
use Rattle.network_calls.specs.Passes.{System}
use Rattle.live_system.specs.Pass.{KnownLink}
use Rattle.live_system.specs.Run.{AreOpened, Does, Ran, RanAlone, Step, received}
use Rattle.live_system.specs.System.{IsPassOf, keeping_no_frame}
use Rattle.live_system.proofs.Running.{ended}
use Rattle.system_examples.specs.Live.{Gave, GaveAll, frame_and_burst, room}
use Rattle.system_examples.proofs.Steps.{of_a, of_b}
use Rattle.system_examples.proofs.live.run.Goals as goal

pub returns : goal.returns
returns g c =
    let opening = c.in_ok-system.field-0 in
    let system : System = opening.system in
    let first : BothPasses KnownLink = record { a = opening.a; b = opening.b } in
    let ends : List (LinkEnds PartitionEnd) = opening.ends.items in
    let on_a : Gave system opening.a 1000 c.args.on_a.now c.join-from_a.result.0.0 c.join-from_a.result.0.1 = c.join-from_a.ensures.first in
    let to_b = take (length c.args.on_b.now) c.join-from_a.result.1.1 in
    let on_b : GaveAll system opening.b c.args.on_b.now c.join-from_a.result.1.0 to_b = c.join-from_a.ensures.second in
    let last : BothPasses KnownLink = record { a = c.join-from_a.result.0.0; b = c.join-from_a.result.1.0 } in
    let all : length c.join-from_a.result.1.1 ≡ room = search rules in
    let few : length c.args.on_b.now ≤ room = c.requires in
    let calls_b = steps_in_turn c.args.on_b.now to_b in
    let call_a = received 1000 c.args.on_a.now c.join-from_a.result.0.1 in
    let steps : List (Net × Step) = frame_and_burst c.args.on_a.now c.args.on_b.now c.join-from_a.result.0.1 to_b in
    let opened : AreOpened (λ _. most_readers) system first ends = record {
      own_a = c.in_ok-system.ensures.a.0;
      own_b = c.in_ok-system.ensures.b.0;
      new_a = c.in_ok-system.ensures.a.1;
      new_b = c.in_ok-system.ensures.b.1;
      links = rw (c.most.ensures, sym c.in_ok-system.ensures.config) at c.in_ok-system.ensures.links;
    } in
    let ran_a : RanAlone system opening.a (steps_of A steps) last.a = rw (of_a calls_b call_a) (opening.a, refl, on_a.own, on_a.net, on_a.replies) in
    let ran_b : RanAlone system opening.b (steps_of B steps) last.b = rw (of_b calls_b call_a) on_b.replied in
    let ran : Ran system first steps last = together (IsPassOf system) (Does system) first last steps ran_a ran_b in
    let settles : HasSettled keeping_no_frame system last c.settle-settled.result.links.items c.settle-settled.result.a c.settle-settled.result.b = record {
      links = c.settle-settled.ensures.links;
      counted_a = c.settle-settled.ensures.a;
      counted_b = c.settle-settled.ensures.b;
    } in
    record {
      system = system;
      of_config = c.in_ok-system.ensures.config;
      ends = ends;
      each = omega (arith, length-take-le (length c.args.on_b.now) c.join-from_a.result.1.1 (omega (arith, all, few)));
      ended = ended (λ _. most_readers) system first last ends steps c.settle-settled.result.links.items c.settle-settled.result.a c.settle-settled.result.b opened ran settles;
    }
