use Rattle.std.proofs.Common.{rules, ◌≡◌, List, [], ◌∷◌, sym, ap, subst}
use Rattle.atomic_table.specs.Table.{opening}
use Rattle.link_lock.specs.Rule.{Locked, opened_view}
use Rattle.link_lock.proofs.Steps.{begins, splits}
use Rattle.link_lock.proofs.lock.Lock.open.Goals as goal

pub new-requires : goal.new-requires
new-requires g c =
    let begun : c.of-begun.result.value ≡ c.args.value = search rules in
    let one : c.push_reserved.new.self.items ≡ c.args.value ∷ [] = search rules in
    let fixed = g.S.Recorded.fixed c.of-begun.result.value in
    subst (λ (xs : List g.row.S.Denot). Locked g.S.Recorded.fixed g.S.Recorded.agree fixed (opening (0 ∷ []) xs (opened_view fixed g.S.Recorded.nothing)))
    (sym one)
    (begins _ _ g.S.Recorded.goes_on fixed c.args.value g.S.Recorded.nothing (λ i. g.S.Recorded.fixed (sym begun i)) c.requires)

pub split_seat-second-requires : goal.split_seat-second-requires
split_seat-second-requires g c =
    let ok = c.in-Ok.ensures.ok in
    (ok.2, search rules, splits _ _ g.S.Recorded.goes_on _ _ c.in-Ok.first.me.0 (ap (λ m. m.0.whose) ok.4) (ap (λ m. m.0.held) ok.4))
