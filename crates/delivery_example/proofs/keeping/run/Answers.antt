use Rattle.std.proofs.Common.{refl, subst, sym, List}
use Rattle.es_base.specs.declared.place.Net.{Net}
use Rattle.es_base.specs.Config.{Configuration}
use Rattle.end_system.specs.declared.ends.LinkEnds.{LinkEnds}
use Rattle.network_calls.specs.Ended.{HasSettled}
use Rattle.network_calls.specs.Passes.{System}
use Rattle.network_calls.specs.Threads.{BothPasses}
use Rattle.end_system.specs.Pass.{KnownLink}
use Rattle.end_system.specs.Run.{AreOpened, Ran, Step}
use Rattle.end_system.specs.System.{keeping_history}
use Rattle.delivery_example.specs.Example.{AreOfTheExample}
use Rattle.delivery_example.specs.Keeping.{steps_of_keeping}
use Rattle.delivery_example.proofs.KeepingCalls.{given_once}
use Rattle.delivery_example.proofs.keeping.run.Goals as goal

pub returns-clause-ended : goal.returns-clause-ended
returns-clause-ended g c =
    let opening = c.in_ok-system.field-0 in
    let system : System = opening.system in
    let first : BothPasses KnownLink = record { a = opening.a; b = opening.b } in
    let second : BothPasses KnownLink = record { a = c.receive.new.pass; b = opening.b } in
    let third : BothPasses KnownLink = record { a = c.receive.new.pass; b = c.receive-2.new.pass } in
    let fourth : BothPasses KnownLink = record { a = c.take_epoch.new.pass; b = c.receive-2.new.pass } in
    let last : BothPasses KnownLink = record { a = c.take_epoch.new.pass; b = c.receive-3.new.pass } in
    let ends : List LinkEnds = opening.ends.items in
    let epoch = c.in-Ok.epoch in
    let steps : List (Net × Step) = steps_of_keeping c.args.on_a.now c.args.first_on_b.now c.args.second_on_b.now c.in_ok-to_a.to_a c.in_ok-to_b.to_b c.in_ok-to_b_again.to_b_again epoch in
    let opened : AreOpened system first ends = record {
      own_a = c.in_ok-system.ensures.a.0;
      own_b = c.in_ok-system.ensures.b.0;
      new_a = c.in_ok-system.ensures.a.1;
      new_b = c.in_ok-system.ensures.b.1;
      of_ports = c.in_ok-system.ensures.ends;
    } in
    let ran : Ran system first steps last = (
      fourth,
      (
        third,
        (
          second,
          (first, refl, record { own = c.in_ok-to_a.ensures.own; of_net = c.in_ok-to_a.ensures.net; does = c.in_ok-to_a.ensures.ok; other = refl }),
          record { own = c.in_ok-to_b.ensures.own; of_net = c.in_ok-to_b.ensures.net; does = c.in_ok-to_b.ensures.ok; other = refl },
        ),
        record { own = c.in-Ok.ensures.own; of_net = c.in-Ok.ensures.net; does = (c.in-Ok.ensures.filtered, c.in-Ok.ensures.epoch); other = refl },
      ),
      record { own = c.in_ok-to_b_again.ensures.own; of_net = c.in_ok-to_b_again.ensures.net; does = c.in_ok-to_b_again.ensures.ok; other = refl },
    ) in
    let settles : HasSettled keeping_history system last c.settle.result.links.items c.settle.result.a c.settle.result.b = record {
      links = c.settle.ensures.links;
      counted_a = c.settle.ensures.a;
      counted_b = c.settle.ensures.b;
    } in
    record {
      system = system;
      of_config = c.in_ok-system.ensures.config;
      ends = ends;
      epoch = epoch;
      delivers = c.each_message_is_given_once.ensures system first last ends steps c.settle.result.links.items c.settle.result.a c.settle.result.b opened ran settles;
      holds = c.each_port_holds_its_messages.ensures system first last ends steps c.settle.result.links.items c.settle.result.a c.settle.result.b opened ran settles;
    }

pub returns-clause-given : goal.returns-clause-given
unfolding returns-clause-ended
returns-clause-given g c = λ of taken.
    let ended = returns-clause-ended g c in
    given_once ended.system ended.ends c.settle.result.links.items ended.epoch c.args.on_a.now c.args.first_on_b.now c.args.second_on_b.now c.in_ok-to_a.to_a c.in_ok-to_b.to_b c.in_ok-to_b_again.to_b_again ended.delivers ended.holds
    (record {
      old_a = c.in_ok-system.field-0.a;
      new_a = c.receive.new.pass;
      old_b = c.in_ok-system.field-0.b;
      next_b = c.receive-2.new.pass;
      new_b = c.receive-3.new.pass;
      takes_a = c.in_ok-to_a.ensures.ok;
      takes_b = c.in_ok-to_b.ensures.ok;
      takes_again = c.in_ok-to_b_again.ensures.ok;
    })
    (subst (λ (config : Configuration). AreOfTheExample config c.args.on_a.now c.args.first_on_b.now c.args.second_on_b.now) (sym ended.of_config) of)
    taken
