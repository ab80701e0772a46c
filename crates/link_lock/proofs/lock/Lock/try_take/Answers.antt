use Rattle.std.proofs.Common.{rules, sym, ◌∙◌}
use Rattle.link_lock.proofs.Steps.{tries}
use Rattle.link_lock.proofs.lock.Lock.try_take.Goals as goal

pub compare_exchange-found-requires : goal.compare_exchange-found-requires
compare_exchange-found-requires g c =
    (c.requires.lock ∙ sym c.self.view_is, search rules, tries _ _ g.S.Recorded.goes_on _ _ _ _ c.requires.ready.0 c.requires.ready.1.0)
