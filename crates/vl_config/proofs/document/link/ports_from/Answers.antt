use Rattle.std.proofs.Common.{◌≡◌, ◌∙◌, ◌++◌, [], ◌∷◌, append_assoc, inr, rules, subst, sym}
use Rattle.std.proofs.lemmas.Result.{err_from_is_err_and}
use Rattle.toml.specs.View.{table_view}
use Rattle.vl_config.specs.Names.{AreNamesOf}
use Rattle.vl_config.specs.Port.{port_from}
use Rattle.vl_config.proofs.Collected.{one_more, first_fault}
use Rattle.vl_config.proofs.Ports.{apart_push, names_push}
use Rattle.vl_config.proofs.document.link.ports_from.Goals as goal

pub loop-table-preserved : goal.loop-table-preserved
loop-table-preserved c =
    let done = c.loop-table.ports.items in
    let port = c.in_ok-port.port in
    let kept = c.loop-table.invariant in
    let pushed : c.push.new.self.items ≡ done ++ port ∷ [] = search rules in
    let lent : c.deref.result.now ≡ done = search rules in
    rw pushed (record {
      value = λ earlier known. sym (one_more (port_from earlier) (λ table. table_view table.now) done c.args.tables.now c.loop-table.table-index c.table-item.result port
          (search rules) c.table-item.is (rw (← lent) (sym (c.in_ok-port.ensures.value earlier (rw lent (kept.names earlier known)))))) ∙ kept.value earlier known;
      few = search rules;
      apart = apart_push done port kept.apart (search rules);
      distinct = λ earlier known apart. names_push earlier done port (kept.distinct earlier known apart)
          (sym (kept.names earlier known port.name) ∙ c.in_ok-port.ensures.name);
      names = λ earlier known. subst (AreNamesOf c.add.new.self) (append_assoc earlier done (port ∷ [])) (c.in_ok-add.ensures (earlier ++ done) (kept.names earlier known));
    })

pub returns-in_err-port-clause-value : goal.returns-in_err-port-clause-value
returns-in_err-port-clause-value c = λ earlier known.
    let fault = c.in_err-port.field-0.0 in
    let returned = err_from_is_err_and c.from_residual-in_err-port.result c.from_residual-in_err-port.ensures.1 in
    let lent : c.deref.result.now ≡ c.loop-table.ports.items = search rules in
    let read = first_fault (port_from earlier) (λ table. table_view table.now) c.loop-table.ports.items c.args.tables.now c.loop-table.table-index c.table-item.result fault
    (search rules) c.table-item.is (rw (← lent) (sym (c.in_err-port.ensures.value earlier (rw lent (c.loop-table.invariant.names earlier known))))) in
    rw (returned.1, returned.2) (inr (sym (c.loop-table.invariant.value earlier known) ∙ read))
