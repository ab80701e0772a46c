use Rattle.std.proofs.Common.{◌≡◌, ◌++◌, length, map, suc, []}
use Rattle.mailbox_port.specs.Port.{buffers_of, mailboxes_from, writer_at}
use Rattle.mailbox_port.proofs.port.open_mailboxes.Given as goal

abbrev pub invariant-loop-place : goal.invariant-loop-place
invariant-loop-place l = record {
  count : suc (length l.others.items) ≡ l.place;
  others : l.others.items ≡ map (writer_at l.fn.longest []) (buffers_of l.others.items);
  mailboxes : l.mailboxes.items ≡ l.initial.mailboxes.items ++ mailboxes_from l.fn.longest 1 (buffers_of l.others.items);
}
