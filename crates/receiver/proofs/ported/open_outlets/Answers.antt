use Rattle.std.proofs.Common.{◌≡◌, ◌≤◌, ◌∙◌, ◌+◌, ◌∷◌, ◌++◌, [], ap, sym, take, length, arith}
use Rattle.std.proofs.lemmas.List.{length-take-le, take_more}
use Rattle.receiver.specs.Outlet.{reads_by}
use Rattle.receiver.proofs.Losses.{none_push}
use Rattle.receiver.proofs.Opens.{opened_push}
use Rattle.receiver.proofs.ported.open_outlets.Goals as goal

pub ports-preserved : goal.ports-preserved
ports-preserved g c =
    let ports = c.args.ports.now in
    let place = c.ports.place in
    let port = c.index-ports-place.result in
    let within : place ≤ length ports = omega (arith, c.ports-test.true) in
    let many : 0 + length (take place ports) ≡ place = omega (arith, length-take-le place ports within) in
    let grown = opened_push g.P.Outlet.shows (reads_by g.P.Outlet.reads (g.R.Readers.count c.args.readers.now)) 0 (take place ports) _ _ place port c.in_ok-outlet.outlet c.end_at-end.result c.ports.invariant.0 many (record {
      nothing = c.in_ok-outlet.ensures.shows;
      at = c.end_at-end.ensures.port.0;
      named = c.end_at-end.ensures.port.1;
      long = c.end_at-end.ensures.settings.0;
      kind = c.end_at-end.ensures.settings.1;
      read = rw (c.end_at-end.ensures.reads, ← c.of-count.ensures) c.in_ok-outlet.ensures.end;
    }) in
    let longer : take (place + 1) ports ≡ take place ports ++ port ∷ [] = take_more ports place port c.ports-test.true ∙ ap (λ p. take place ports ++ p ∷ []) (sym c.index-ports-place.is) in (
      rw (longer, c.in_ok-push.ensures.items, c.in_ok-push-2.ensures.items) grown,
      rw c.in_ok-push.ensures.items (none_push g.P.Outlet.loses _ c.in_ok-outlet.outlet c.ports.invariant.1 c.in_ok-outlet.ensures.none_lost),
    )
