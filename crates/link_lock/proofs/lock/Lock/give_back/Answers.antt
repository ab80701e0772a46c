use Rattle.std.proofs.Common.{rules, sym, ◌∙◌}
use Rattle.link_lock.proofs.Steps.{gives_back}
use Rattle.link_lock.proofs.lock.Lock.give_back.Goals as goal

pub store-requires : goal.store-requires
store-requires g c = (c.requires.lock ∙ sym c.self.view_is, search rules, gives_back _ _ _ _ _ _ _ c.requires.may)
