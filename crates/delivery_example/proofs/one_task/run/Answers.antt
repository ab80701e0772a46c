use Rattle.std.proofs.Common.{refl, List}
use Rattle.receiver.specs.Port.{AnswersPort, GivesPort, ShowsPort}
use Rattle.receiver.specs.Run.{Call, RanCalls}
use Rattle.delivery_example.specs.Task.{calls_of_task}
use Rattle.delivery_example.proofs.TaskCalls.{given_once}
use Rattle.delivery_example.proofs.one_task.run.Goals as goal

calls_of : goal.After-receive-to_b_again → List Call
calls_of c = calls_of_task c.args.on_a.now c.args.first_on_b.now c.args.second_on_b.now c.receive-to_a.result c.receive-to_b.result c.receive-to_b_again.result

calls_are : (c : goal.After-receive-to_b_again) → RanCalls ShowsPort GivesPort AnswersPort c.in_ok-opened.opened.receiver (calls_of c) c.receive-to_b_again.new.self
unfolding calls_of
calls_are c = (
  c.receive-to_b.new.self,
  (c.receive-to_a.new.self, (c.in_ok-opened.opened.receiver, refl, c.receive-to_a.ensures.replies), c.receive-to_b.ensures.replies),
  c.receive-to_b_again.ensures.replies,
)

pub returns-clause-calls : goal.returns-clause-calls
unfolding calls_of
returns-clause-calls c =
    c.the_calls_on_each_link_are_its_past.ensures (λ port. c.most.result) c.args.config.now c.in_ok-opened.opened.receiver c.receive-to_b_again.new.self c.in_ok-opened.opened.ends.items (calls_of c) c.in_ok-opened.ensures (calls_are c)

pub returns-clause-given : goal.returns-clause-given
unfolding calls_of
returns-clause-given c = λ of.
    given_once c.args.config.now c.args.on_a.now c.args.first_on_b.now c.args.second_on_b.now c.receive-to_a.result c.receive-to_b.result c.receive-to_b_again.result c.receive-to_b_again.new.self
    (record {
      first = c.in_ok-opened.opened.receiver;
      one = c.receive-to_a.new.self;
      two = c.receive-to_b.new.self;
      configured = c.in_ok-opened.ensures.config;
      takes_a = c.receive-to_a.ensures.replies;
      takes_b = c.receive-to_b.ensures.replies;
      takes_again = c.receive-to_b_again.ensures.replies;
    })
    (returns-clause-calls c)
    (λ place link there.
    c.each_datagram_is_given_once.ensures (λ port. c.most.result) c.args.config.now c.in_ok-opened.opened.receiver c.receive-to_b_again.new.self c.in_ok-opened.opened.ends.items (calls_of c) c.in_ok-opened.ensures (calls_are c) place link there)
    of
