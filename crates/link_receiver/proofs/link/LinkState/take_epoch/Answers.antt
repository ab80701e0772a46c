use Rattle.std.proofs.Common.{◌≡◌, ◌+◌, refl, length}
use Rattle.link_receiver.proofs.Epochs.{goes_on}
use Rattle.link_receiver.proofs.link.LinkState.take_epoch.Goals as goal

pub invariant_of-self : goal.invariant_of-self
invariant_of-self c =
    let s = c.self.inside in
    let is : c.taken.result + c.len.result ≡ length s.before.events + length s.history.items = rw (c.taken.ensures.value, c.len.ensures, ← c.self.view_is) refl in
    rw (c.replace-events.ensures.after, c.new.ensures, c.replace-before.ensures.after, c.replace-first.ensures.after, c.and_all-all.ensures, c.in-Ok-waiting.ensures, c.reassembly.ensures)
    (goes_on s.settings s.before.events s.history.items s.taken _ s.pieces s.nets s.kept s.outlets.items c.self.invariant is c.if-taken.false)

pub returns-clause-ok : goal.returns-clause-ok
returns-clause-ok c =
    rw (← c.self.view_is, c.of.ensures, c.in-Ok.ensures, c.replace-before.ensures.value, c.replace-events.ensures.value, c.replace-events.ensures.after, c.new.ensures, c.replace-before.ensures.after, c.and_all-all.ensures) (record {
      is = refl;
      goes_on = refl;
    })
