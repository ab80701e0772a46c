use Rattle.std.proofs.Common.{◌≡◌, ◌∙◌, ◌++◌, [], ◌∷◌, length, append_assoc, rules, subst, sym}
use Rattle.toml.specs.View.{table_view}
use Rattle.vl_config.specs.Names.{AreNamesOf}
use Rattle.vl_config.proofs.Places.{after_port, at_port}
use Rattle.vl_config.proofs.document.place.port_place.Goals as goal

pub loop-table-preserved : goal.loop-table-preserved
loop-table-preserved c = λ earlier known.
    let done = c.loop-table.ports.items in
    let port = c.in-Ok.port in
    let kept = c.loop-table.invariant earlier known in
    let pushed : c.push.new.self.items ≡ done ++ port ∷ [] = search rules in
    let lent : c.deref.result.now ≡ done = search rules in
    rw pushed (record {
      value = sym (after_port (λ table. table_view table.now) earlier done c.args.tables.now c.loop-table.table-index c.table-item.result port
          (search rules) c.table-item.is (rw (← lent) (sym (c.in-Ok.ensures.value earlier (rw lent kept.names))))) ∙ kept.value;
      names = subst (AreNamesOf c.add.new.self) (append_assoc earlier done (port ∷ [])) (c.in_ok-add.ensures (earlier ++ done) kept.names);
    })

pub returns-in_default : goal.returns-in_default
returns-in_default c = λ earlier known.
    let done = c.loop-table.ports.items in
    let kept = c.loop-table.invariant earlier known in
    let lent : c.deref.result.now ≡ done = search rules in
    let len : c.len.result ≡ length done = search rules in
    let place = at_port (λ table. table_view table.now) earlier done c.args.tables.now c.loop-table.table-index c.table-item.result c.in_default.field-0
    (search rules) c.table-item.is (rw (← lent) (sym (c.in_default.ensures.value earlier (rw lent kept.names)))) in
    search (rules, len, place, kept)
