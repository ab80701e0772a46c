use Rattle.std.proofs.Common.{◌≡◌}
use Rattle.triple_buffer.specs.Rule.{message}
use Rattle.mailbox_port.proofs.Lists.{first_published}
use Rattle.mailbox_port.proofs.port.PortWriter.publish.Given as goal

abbrev pub invariant-loop-place : goal.invariant-loop-place
invariant-loop-place l = record {
  first : l.self-inside.first ≡ l.initial.self-inside.first;
  others : l.self-inside.others.items ≡ first_published l.place l.initial.self-inside.others.items (message l.fn.time l.fn.octets);
  longest : l.self-inside.longest ≡ l.initial.self-inside.longest;
  count : l.self-inside.count ≡ l.initial.self-inside.count;
}
