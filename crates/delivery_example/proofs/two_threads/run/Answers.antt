use Rattle.std.proofs.Common.{refl, subst, sym, List}
use Rattle.es_base.specs.declared.place.Net.{Net}
use Rattle.es_base.specs.Config.{Configuration}
use Rattle.mailbox_port.specs.Port.{most_readers}
use Rattle.receiver.specs.declared.ends.LinkEnds.{LinkEnds}
use Rattle.receiver.specs.declared.partition.PartitionEnd.{PartitionEnd}
use Rattle.network_calls.specs.Ended.{HasSettled}
use Rattle.network_calls.specs.Passes.{System}
use Rattle.network_calls.specs.Threads.{BothPasses}
use Rattle.live_system.specs.Pass.{KnownLink}
use Rattle.live_system.specs.Run.{AreOpened, Ran, Step}
use Rattle.live_system.specs.System.{keeping_no_frame}
use Rattle.delivery_example.specs.Example.{AreOfTheExample}
use Rattle.delivery_example.specs.TwoThreads.{GaveOne, steps_of_threads}
use Rattle.delivery_example.proofs.ThreadCalls.{given_once}
use Rattle.delivery_example.proofs.two_threads.run.Goals as goal

pub returns-clause-ended : goal.returns-clause-ended
returns-clause-ended g c =
    let opening = c.in_ok-system.field-0 in
    let system : System = opening.system in
    let first : BothPasses KnownLink = record { a = opening.a; b = opening.b } in
    let ends : List (LinkEnds PartitionEnd) = opening.ends.items in
    let to_a = c.join-a.result.0.1 in
    let to_b = c.join-a.result.1.1 in
    let to_b_again = c.give-b.result.1 in
    let on_a : GaveOne system opening.a 100 c.args.on_a.now c.join-a.result.0.0 to_a = c.join-a.ensures.first in
    let on_b : GaveOne system opening.b 900 c.args.first_on_b.now c.join-a.result.1.0 to_b = c.join-a.ensures.second in
    let again : GaveOne system c.join-a.result.1.0 10500 c.args.second_on_b.now c.give-b.result.0 to_b_again = c.give-b.ensures in
    let last : BothPasses KnownLink = record { a = c.join-a.result.0.0; b = c.give-b.result.0 } in
    let steps : List (Net × Step) = steps_of_threads c.args.on_a.now c.args.first_on_b.now c.args.second_on_b.now to_a to_b to_b_again in
    let opened : AreOpened (λ _. most_readers) system first ends = record {
      own_a = c.in_ok-system.ensures.a.0;
      own_b = c.in_ok-system.ensures.b.0;
      new_a = c.in_ok-system.ensures.a.1;
      new_b = c.in_ok-system.ensures.b.1;
      links = rw (c.most.ensures, sym c.in_ok-system.ensures.config) at c.in_ok-system.ensures.links;
    } in
    let after_a : BothPasses KnownLink = record { a = last.a; b = opening.b } in
    let after_b : BothPasses KnownLink = record { a = last.a; b = c.join-a.result.1.0 } in
    let ran : Ran system first steps last = (
      after_b,
      (
        after_a,
        (first, refl, record { own = on_a.own; of_net = on_a.net; does = on_a.replies; other = refl }),
        record { own = on_b.own; of_net = on_b.net; does = on_b.replies; other = refl },
      ),
      record { own = again.own; of_net = again.net; does = again.replies; other = refl },
    ) in
    let settles : HasSettled keeping_no_frame system last c.settle.result.links.items c.settle.result.a c.settle.result.b = record {
      links = c.settle.ensures.links;
      counted_a = c.settle.ensures.a;
      counted_b = c.settle.ensures.b;
    } in
    record {
      system = system;
      of_config = c.in_ok-system.ensures.config;
      ends = ends;
      delivers = c.each_message_is_given_once.ensures (λ _. most_readers) system first last ends steps c.settle.result.links.items c.settle.result.a c.settle.result.b opened ran settles;
    }

pub returns-clause-given : goal.returns-clause-given
unfolding returns-clause-ended
returns-clause-given g c = λ of taken.
    let opening = c.in_ok-system.field-0 in
    let ended = returns-clause-ended g c in
    given_once (λ _. most_readers) ended.system ended.ends c.settle.result.links.items c.args.on_a.now c.args.first_on_b.now c.args.second_on_b.now c.join-a.result.0.1 c.join-a.result.1.1 c.give-b.result.1 ended.delivers
    (record {
      old_a = opening.a;
      new_a = c.join-a.result.0.0;
      old_b = opening.b;
      next_b = c.join-a.result.1.0;
      new_b = c.give-b.result.0;
      takes_a = c.join-a.ensures.first.replies;
      takes_b = c.join-a.ensures.second.replies;
      takes_again = c.give-b.ensures.replies;
    })
    (subst (λ (config : Configuration). AreOfTheExample config c.args.on_a.now c.args.first_on_b.now c.args.second_on_b.now) (sym ended.of_config) of)
    taken
